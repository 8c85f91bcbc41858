-- Folds, steps, passes and settling keep the rules and the run.
use Rattle.std.proofs.Common.{◌≡◌, ℕ, ◌+◌, List, [], ◌∷◌, ◌++◌, Some, None, Option, refl, ap, ◌∙◌, subst}
use Rattle.host.specs.Model.{Model, Lawful, by_let}
use Rattle.meaning.specs.Completion.{normal, end, ◌then◌, with_label, catch_by, finally}
use Rattle.meaning.specs.Run.{bound_names, let_names, let_names_cases, branch, declare, scoped, while_loop, do_loop, for_loop, switch, catch_clause, run, run_list, run_cases, run_body}
use Rattle.words.specs.Tree.{Expression, Declarator, Start}
use Rattle.words.specs.Tree.{Statement, Empty, Break, Continue, Block, Expr, Throw, Var, If, IfElse, For, While, Do, Switch, Label, BreakTo, ContinueTo, Return, TryCatch, TryFinally, TryBoth}
use Rattle.words.specs.Tree.{Statements, some, Let, Cases, case}
use Rattle.checker.specs.Check.{Around}
use Rattle.checker.specs.Rules.{Keeps, KeepsList, KeepsCases, inside, loop_body, switch_case, labelled, listed, OneDefault, NoDefault}
use Rattle.meaning.specs.FoldLaws.{Sound}
use Rattle.checker.specs.Check.{nowhere}
use Rattle.meaning.specs.Fold.Block.{Parent, block_parent}
use Rattle.meaning.specs.Pass.{fold, pass_body, rests, again}
use Rattle.meaning.specs.FoldLaws.{FoldKeepsRun, KeepsRun, StepKeepsRun, PassKeepsRun, SettleKeepsRun}
use Rattle.meaning.proofs.Surroundings.{sound_inside, sound_switch, sound_listed, sound_loop, sound_labelled}
use Rattle.meaning.proofs.Closed.{Closed, pass_list_law, step_list_law}
use Rattle.meaning.proofs.Fold.Block.{block_accepted, block_run}
use Rattle.meaning.proofs.Fold.If.{if_accepted, if_else_accepted, if_run, if_else_run}
use Rattle.meaning.proofs.Fold.For.{for_accepted, for_run}
use Rattle.meaning.proofs.Fold.Labeled.{labeled_accepted, labeled_run}
use Rattle.meaning.proofs.Fold.Switch.{switch_run}
use Rattle.meaning.proofs.Fold.SwitchAccepted.{switch_accepted}
use Rattle.meaning.proofs.Fold.Try.{try_catch_accepted, try_finally_accepted, try_both_accepted, try_catch_run, try_finally_run, try_both_run}

module _ (m : Model) (law : Lawful m) where
  -- a part that keeps the rules becomes one that does and runs as before
  abbrev R : Statement → Statement → ℕ → Type 0
  R s t n = (a : Around) → Sound a → Keeps m.count a s → Keeps m.count a t × (run m t a.label_set ≡ run m s a.label_set)

  abbrev L : Statements → Statements → ℕ → Type 0
  L ss ts n = (let_names ts ≡ let_names ss) × ((a : Around) → Sound a → a.label_set ≡ [] → KeepsList m.count a ss → KeepsList m.count a ts × (run_list m ts ≡ run_list m ss))

  abbrev C : Cases → Cases → ℕ → Type 0
  C cs ds n = (let_names_cases ds ≡ let_names_cases cs) × (NoDefault cs → NoDefault ds) × (OneDefault cs → OneDefault ds) × ((a : Around) → Sound a → KeepsCases m.count a cs → KeepsCases m.count a ds × (run_cases m ds ≡ run_cases m cs))

  fold_law : (p : Parent) (s : Statement) → R s (fold m [] p s).result (fold m [] p s).changes
  unfolding fold
  fold_law p Empty a k q = (q, refl)
  fold_law p Break a k q = (q, refl)
  fold_law p Continue a k q = (q, refl)
  fold_law p (Block ss) a k q = (block_accepted m.count a p ss q, block_run m m.count a p ss k q)
  fold_law p (Expr e) a k q = (q, refl)
  fold_law p (Throw e) a k q = (q, refl)
  fold_law p (Var d ds) a k q = (q, refl)
  fold_law p (If e s) a k q = (if_accepted m.count law.at_least_two m a e s q, if_run m law m.count a e s k q)
  fold_law p (IfElse e s t) a k q = (if_else_accepted m.count law.at_least_two m a e s t q, if_else_run m law m.count law.at_least_two a e s t k q)
  fold_law p (For i t u s) a k q = (for_accepted m m.count a i t u s q, for_run m law i t u s a.label_set)
  fold_law p (While e s) a k q = (q, refl)
  fold_law p (Do s e) a k q = (q, refl)
  fold_law p (Switch e cs) a k q = (switch_accepted m.count a m e cs q, switch_run m law e cs a.label_set)
  fold_law p (Label l s) a k q = (labeled_accepted m.count a l s q, labeled_run m law l s a.label_set)
  fold_law p (BreakTo l) a k q = (q, refl)
  fold_law p (ContinueTo l) a k q = (q, refl)
  fold_law p (Return e) a k q = (q, refl)
  fold_law p (TryCatch b x c) a k q = (try_catch_accepted m.count a b x c q, try_catch_run m b x c a.label_set)
  fold_law p (TryFinally b f) a k q = (try_finally_accepted m.count a b f q, try_finally_run m b f a.label_set)
  fold_law p (TryBoth b x c f) a k q = (try_both_accepted m.count a b x c f q, try_both_run m b x c f a.label_set)

  chain_law : (s t u : Statement) (n k : ℕ) → R s t n → R t u k → R s u (n + k)
  chain_law s t u n k p q a j r = let x = p a j r in let y = q a j x.0 in (y.0, y.1 ∙ x.1)

  block_law : (ss ts : Statements) (n : ℕ) → L ss ts n → R (Block ss) (Block ts) n
  unfolding run
  block_law ss ts n p a k q = let x = p.1 (inside a) (sound_inside a k) refl q.1 in ((q.0, x.0), λ i. scoped m (p.0 i) (x.1 i))

  if_law : (e : Expression) (s t : Statement) (n : ℕ) → R s t n → R (If e s) (If e t) n
  unfolding run
  if_law e s t n p a k q = let x = p (inside a) (sound_inside a k) q.2 in ((q.0, q.1, x.0), λ i. branch m e (x.1 i) (end normal))

  if_else_law : (e : Expression) (s t u v : Statement) (n k : ℕ) → R s t n → R u v k → R (IfElse e s u) (IfElse e t v) (n + k)
  unfolding run
  if_else_law e s t u v n j p r a k q = let x = p (inside a) (sound_inside a k) q.2 in let y = r (inside a) (sound_inside a k) q.3 in ((q.0, q.1, x.0, y.0), λ i. branch m e (x.1 i) (y.1 i))

  for_law : (i : Start) (t u : Option Expression) (s v : Statement) (n : ℕ) → R s v n → R (For i t u s) (For i t u v) n
  unfolding run
  for_law j t u s v n p a k q = let x = p (loop_body a) (sound_loop a k) q.4 in ((q.0, q.1, q.2, q.3, x.0), λ i. for_loop m j a.label_set t u (x.1 i))

  while_law : (e : Expression) (s t : Statement) (n : ℕ) → R s t n → R (While e s) (While e t) n
  unfolding run
  while_law e s t n p a k q = let x = p (loop_body a) (sound_loop a k) q.2 in ((q.0, q.1, x.0), λ i. while_loop m a.label_set e (x.1 i))

  do_law : (e : Expression) (s t : Statement) (n : ℕ) → R s t n → R (Do s e) (Do t e) n
  unfolding run
  do_law e s t n p a k q = let x = p (loop_body a) (sound_loop a k) q.1 in ((q.0, x.0, q.2), λ i. do_loop m a.label_set (x.1 i) e)

  switch_law : (e : Expression) (cs ds : Cases) (n : ℕ) → C cs ds n → R (Switch e cs) (Switch e ds) n
  unfolding run
  switch_law e cs ds n p a k q = let x = p.3 (switch_case a) (sound_switch a k) q.2 in ((q.0, q.1, x.0, p.2 q.3), λ i. switch m e (p.0 i) (x.1 i))

  label_law : (l : ℕ) (s t : Statement) (n : ℕ) → R s t n → R (Label l s) (Label l t) n
  unfolding run
  label_law l s t n p a k q = let x = p (labelled l a) (sound_labelled a l q.1 k) q.2 in ((q.0, q.1, x.0), λ i. with_label l (x.1 i))

  catch_law : (b c : Statements) (x : Option ℕ) (d e : Statements) (n k : ℕ) → L b c n → L d e k → R (TryCatch b x d) (TryCatch c x e) (n + k)
  unfolding run
  catch_law b c z d e n j p r a k q = let x = p.1 (inside a) (sound_inside a k) refl q.1 in let y = r.1 (inside a) (sound_inside a k) refl q.2 in
      ((q.0, x.0, y.0), λ i. catch_by (scoped m (p.0 i) (x.1 i)) (catch_clause m z (scoped m (r.0 i) (y.1 i))))

  finally_law : (b c f g : Statements) (n k : ℕ) → L b c n → L f g k → R (TryFinally b f) (TryFinally c g) (n + k)
  unfolding run
  finally_law b c f g n j p r a k q = let x = p.1 (inside a) (sound_inside a k) refl q.1 in let y = r.1 (inside a) (sound_inside a k) refl q.2 in
      ((q.0, x.0, y.0), λ i. finally (scoped m (p.0 i) (x.1 i)) (scoped m (r.0 i) (y.1 i)))

  both_law : (b c : Statements) (x : Option ℕ) (d e f g : Statements) (n k j : ℕ) → L b c n → L d e k → L f g j → R (TryBoth b x d f) (TryBoth c x e g) (n + (k + j))
  unfolding run
  both_law b c z d e f g n j l p r s a k q =
      let x = p.1 (inside a) (sound_inside a k) refl q.1 in let y = r.1 (inside a) (sound_inside a k) refl q.2 in let v = s.1 (inside a) (sound_inside a k) refl q.3 in
      ((q.0, x.0, y.0, v.0), λ i. finally (catch_by (scoped m (p.0 i) (x.1 i)) (catch_clause m z (scoped m (r.0 i) (y.1 i)))) (scoped m (s.0 i) (v.1 i)))

  more_law : (s t : Statement) (ss ts : Statements) (n k : ℕ) → R s t n → L ss ts k → L (some s ss) (some t ts) (n + k)
  unfolding run
  more_law s t ss ts n j p r = (
    r.0,
    λ a k e q. let x = p a k q.0 in let y = r.1 a k e q.1 in
        ((x.0, y.0), λ i. (let P : List ℕ → Type 0 = λ ls. run m t ls ≡ run m s ls in subst P e x.1) i then y.1 i),
  )

  more_let_law : (d : Declarator) (ds : List Declarator) (ss ts : Statements) (n : ℕ) → L ss ts n → L (Let d ds ss) (Let d ds ts) n
  unfolding run
  more_let_law d ds ss ts n p = (ap (λ x. bound_names (d ∷ ds) ++ x) p.0, λ a k e q. let x = p.1 a k e q.2 in ((q.0, q.1, x.0), λ i. declare m by_let (d ∷ ds) then x.1 i))

  more_case_law : (t : Option Expression) (ss ts : Statements) (cs ds : Cases) (n k : ℕ) → L ss ts n → C cs ds k → C (case t ss cs) (case t ts ds) (n + k)
  unfolding run
  more_case_law None ss ts cs ds n j p r = (
    (λ i. p.0 i ++ r.0 i),
    (λ q. q),
    r.1,
    λ a k q. let x = p.1 (listed a) (sound_listed a k) refl q.2 in let y = r.3 a k q.3 in ((q.0, q.1, x.0, y.0), λ i. (None, x.1 i) ∷ y.1 i),
  )
  more_case_law (Some t) ss ts cs ds n j p r = (
    (λ i. p.0 i ++ r.0 i),
    r.1,
    r.2,
    λ a k q. let x = p.1 (listed a) (sound_listed a k) refl q.2 in let y = r.3 a k q.3 in ((q.0, q.1, x.0, y.0), λ i. (Some t, x.1 i) ∷ y.1 i),
  )

  closed : Closed R L C
  closed = record {
    same = λ s a k q. (q, refl);
    chain = chain_law;
    block = block_law;
    if_then = if_law;
    if_else = if_else_law;
    for = for_law;
    while = while_law;
    do_while = do_law;
    switch = switch_law;
    label = label_law;
    try_catch = catch_law;
    try_finally = finally_law;
    try_both = both_law;
    empty_list = (refl, λ a k e q. (tt, refl));
    more = more_law;
    more_let = more_let_law;
    empty_cases = (refl, (λ q. q), (λ q. q), λ a k q. (tt, refl));
    more_case = more_case_law;
  }

  -- a script's statements stand in a Body
  in_body : (ss ts : Statements) (n : ℕ) → L ss ts n → KeepsRun m ss ts
  unfolding run_body
  in_body ss ts n p q = let x = p.1 nowhere (record { apart = λ l r. refl; targets = λ l r. cc; own = λ l r. cc }) refl q in (x.0, λ i. scoped m (p.0 i) (x.1 i))

pub fold_keeps_run : FoldKeepsRun
fold_keeps_run m law p s a k q = fold_law m law p s a k q

pub step_keeps_run : StepKeepsRun
step_keeps_run m law n ss = in_body m law ss _ 0 (step_list_law m [] (R m law) (L m law) (C m law) (closed m law) (fold_law m law) n block_parent ss)

pub pass_keeps_run : PassKeepsRun
pass_keeps_run m law ss = in_body m law ss _ 0 (pass_list_law m [] (R m law) (L m law) (C m law) (closed m law) (fold_law m law) block_parent ss)

pub settle_keeps_run : SettleKeepsRun
settle_keeps_run m law ss ts n (rests us e) q = (q, refl)
settle_keeps_run m law ss ts n (again us vs l k e r) q =
    let x = pass_keeps_run m law us q in let y = settle_keeps_run m law (pass_body m [] us).result vs l r x.0 in (y.0, y.1 ∙ x.1)
