-- Folds, steps, passes and settling pay for their changes, settling ends, and what has settled stays.
use Rattle.std.proofs.Common.{◌≡◌, ℕ, zero, suc, ◌+◌, ◌-◌, ◌≤◌, Bool, true, false, cond, eqb, ltb, List, length, Option, sym, refl, ap, ◌∙◌, subst, arith}
use Rattle.host.specs.Model.{Model, Lawful}
use Rattle.words.specs.Tree.{Expression}
use Rattle.words.specs.Tree.{Statement, Empty, Break, Continue, Block, Expr, Throw, Var, If, IfElse, For, While, Do, Switch, Label, BreakTo, ContinueTo, Return, TryCatch, TryFinally, TryBoth}
use Rattle.words.specs.Tree.{Statements, none, some, Let, Cases, no_case, case}
use Rattle.words.specs.Encode.{encode, encode_list, encode_body}
use Rattle.scan.specs.Weight.{weight, weight_list, weight_body}
use Rattle.meaning.specs.Fold.Folded.{Folded}
use Rattle.meaning.specs.Fold.Block.{Parent, loop_parent, block_parent, consequent_parent, label_parent, other_parent}
use Rattle.meaning.specs.Pass.{size, size_list, fold, pass, pass_list, pass_cases, pass_body, Settles, rests, again}
use Rattle.meaning.specs.Step.{step_inside, step_list, step_cases}
use Rattle.meaning.specs.ChangeLaws.{Pays, PaysScript, FoldPays, StepPays, PassPays, SettlePays, SettleEnds, SettleUnique, SettledQuiet}
use Rattle.meaning.proofs.Measure.{Scale, measure, measure_list, measure_cases}
use Rattle.meaning.proofs.Scales.{by_weight, by_words, weight_is, weight_list_is, words_is, words_list_is}
use Rattle.meaning.proofs.Bound.{bound_same, zero_left, zero_right}
use Rattle.meaning.proofs.Fold.Bounds.{block_bound, labeled_bound, for_bound, try_catch_bound, try_finally_bound, try_both_bound}
use Rattle.meaning.proofs.Fold.IfBounds.{if_bound, if_else_bound}
use Rattle.meaning.proofs.Fold.SwitchBounds.{switch_bound}
use Rattle.meaning.proofs.Closed.{Closed, pass_law, pass_list_law, pass_cases_law, step_list_law}

module _ (z : Scale) where
  abbrev R : Statement → Statement → ℕ → Type 0
  R s t n = (measure z t + z.scaled n ≤ measure z s) × (n ≡ 0 → t ≡ s)

  abbrev L : Statements → Statements → ℕ → Type 0
  L s t n = (measure_list z t + z.scaled n ≤ measure_list z s) × (n ≡ 0 → t ≡ s)

  abbrev C : Cases → Cases → ℕ → Type 0
  C s t n = (measure_cases z t + z.scaled n ≤ measure_cases z s) × (n ≡ 0 → t ≡ s)

  -- two parts beside a constant
  both : (a b c d n k : ℕ) → a + z.scaled n ≤ b → c + z.scaled k ≤ d → a + c + z.scaled (n + k) ≤ b + d
  both a b c d n k p q = let e : z.scaled (n + k) ≡ z.scaled n + z.scaled k = z.adds n k in omega arith

  chain_law : (s t u : Statement) (n k : ℕ) → R s t n → R t u k → R s u (n + k)
  chain_law s t u n k p q = (
    let a : measure z t + z.scaled n ≤ measure z s = p.0 in let b : measure z u + z.scaled k ≤ measure z t = q.0 in let e : z.scaled (n + k) ≡ z.scaled n + z.scaled k = z.adds n k in omega arith,
    λ r. q.1 (zero_right n k r) ∙ p.1 (zero_left n k r),
  )

  one_part : (s t : Statement) (a b c n : ℕ) → a + z.scaled n ≤ b → measure z s ≡ c + b → measure z t ≡ c + a → measure z t + z.scaled n ≤ measure z s
  one_part s t a b c n p q r = omega arith

  if_else_law : (e : Expression) (s t u v : Statement) (n k : ℕ) → R s t n → R u v k → R (IfElse e s u) (IfElse e t v) (n + k)
  if_else_law e s t u v n k p q = (
    let a : measure z t + measure z v + z.scaled (n + k) ≤ measure z s + measure z u = both (measure z t) (measure z s) (measure z v) (measure z u) n k p.0 q.0 in omega arith,
    λ r i. IfElse e (p.1 (zero_left n k r) i) (q.1 (zero_right n k r) i),
  )

  catch_law : (b c : Statements) (x : Option ℕ) (d e : Statements) (n k : ℕ) → L b c n → L d e k → R (TryCatch b x d) (TryCatch c x e) (n + k)
  catch_law b c x d e n k p q = (
    let a : measure_list z c + measure_list z e + z.scaled (n + k) ≤ measure_list z b + measure_list z d = both (measure_list z c) (measure_list z b) (measure_list z e) (measure_list z d) n k p.0 q.0 in omega arith,
    λ r i. TryCatch (p.1 (zero_left n k r) i) x (q.1 (zero_right n k r) i),
  )

  finally_law : (b c f g : Statements) (n k : ℕ) → L b c n → L f g k → R (TryFinally b f) (TryFinally c g) (n + k)
  finally_law b c f g n k p q = (
    let a : measure_list z c + measure_list z g + z.scaled (n + k) ≤ measure_list z b + measure_list z f = both (measure_list z c) (measure_list z b) (measure_list z g) (measure_list z f) n k p.0 q.0 in omega arith,
    λ r i. TryFinally (p.1 (zero_left n k r) i) (q.1 (zero_right n k r) i),
  )

  both_law : (b c : Statements) (x : Option ℕ) (d e f g : Statements) (n k j : ℕ) → L b c n → L d e k → L f g j → R (TryBoth b x d f) (TryBoth c x e g) (n + (k + j))
  both_law b c x d e f g n k j p q r = (
    let a : measure_list z e + measure_list z g + z.scaled (k + j) ≤ measure_list z d + measure_list z f = both (measure_list z e) (measure_list z d) (measure_list z g) (measure_list z f) k j q.0 r.0 in
        let h : measure_list z c + (measure_list z e + measure_list z g) + z.scaled (n + (k + j)) ≤ measure_list z b + (measure_list z d + measure_list z f)
        = both (measure_list z c) (measure_list z b) (measure_list z e + measure_list z g) (measure_list z d + measure_list z f) n (k + j) p.0 a in omega arith,
    λ s i. TryBoth (p.1 (zero_left n (k + j) s) i) x (q.1 (zero_left k j (zero_right n (k + j) s)) i) (r.1 (zero_right k j (zero_right n (k + j) s)) i),
  )

  more_law : (s t : Statement) (ss ts : Statements) (n k : ℕ) → R s t n → L ss ts k → L (some s ss) (some t ts) (n + k)
  more_law s t ss ts n k p q = (both (measure z t) (measure z s) (measure_list z ts) (measure_list z ss) n k p.0 q.0, λ r i. some (p.1 (zero_left n k r) i) (q.1 (zero_right n k r) i))

  more_case_law : (t : Option Expression) (ss ts : Statements) (cs ds : Cases) (n k : ℕ) → L ss ts n → C cs ds k → C (case t ss cs) (case t ts ds) (n + k)
  more_case_law t ss ts cs ds n k p q = (
    let a : measure_list z ts + measure_cases z ds + z.scaled (n + k) ≤ measure_list z ss + measure_cases z cs = both (measure_list z ts) (measure_list z ss) (measure_cases z ds) (measure_cases z cs) n k p.0 q.0 in omega arith,
    λ r i. case t (p.1 (zero_left n k r) i) (q.1 (zero_right n k r) i),
  )

  closed : Closed R L C
  closed = record {
    same = λ s. bound_same z s;
    chain = chain_law;
    block = λ ss ts n p. (let a : measure_list z ts + z.scaled n ≤ measure_list z ss = p.0 in omega arith, λ r. ap Block (p.1 r));
    if_then = λ e s t n p. (let a : measure z t + z.scaled n ≤ measure z s = p.0 in omega arith, λ r. ap (If e) (p.1 r));
    if_else = if_else_law;
    for = λ i t u s v n p. (let a : measure z v + z.scaled n ≤ measure z s = p.0 in omega arith, λ r. ap (For i t u) (p.1 r));
    while = λ e s t n p. (let a : measure z t + z.scaled n ≤ measure z s = p.0 in omega arith, λ r. ap (While e) (p.1 r));
    do_while = λ e s t n p. (let a : measure z t + z.scaled n ≤ measure z s = p.0 in omega arith, λ r. ap (λ x. Do x e) (p.1 r));
    switch = λ e cs ds n p. (let a : measure_cases z ds + z.scaled n ≤ measure_cases z cs = p.0 in omega arith, λ r. ap (Switch e) (p.1 r));
    label = λ l s t n p. (let a : measure z t + z.scaled n ≤ measure z s = p.0 in omega arith, λ r. ap (Label l) (p.1 r));
    try_catch = catch_law;
    try_finally = finally_law;
    try_both = both_law;
    empty_list = (let e : z.scaled 0 ≡ 0 = z.at_zero in omega arith, λ r. refl);
    more = more_law;
    more_let = λ d ds ss ts n p. (let a : measure_list z ts + z.scaled n ≤ measure_list z ss = p.0 in omega arith, λ r. ap (Let d ds) (p.1 r));
    empty_cases = (let e : z.scaled 0 ≡ 0 = z.at_zero in omega arith, λ r. refl);
    more_case = more_case_law;
  }

  fold_law : (m : Model) → Lawful m → (dropped : List ℕ) (p : Parent) (s : Statement) → R s (fold m dropped p s).result (fold m dropped p s).changes
  unfolding fold
  fold_law m law dropped p Empty = bound_same z Empty
  fold_law m law dropped p Break = bound_same z Break
  fold_law m law dropped p Continue = bound_same z Continue
  fold_law m law dropped p (Block ss) = block_bound z p ss
  fold_law m law dropped p (Expr e) = bound_same z (Expr e)
  fold_law m law dropped p (Throw e) = bound_same z (Throw e)
  fold_law m law dropped p (Var d ds) = bound_same z (Var d ds)
  fold_law m law dropped p (If e s) = if_bound z m law e s
  fold_law m law dropped p (IfElse e s t) = if_else_bound z m law e s t
  fold_law m law dropped p (For i t u s) = for_bound z m i t u s
  fold_law m law dropped p (While e s) = bound_same z (While e s)
  fold_law m law dropped p (Do s e) = bound_same z (Do s e)
  fold_law m law dropped p (Switch e cs) = switch_bound z m e cs
  fold_law m law dropped p (Label l s) = labeled_bound z dropped l s
  fold_law m law dropped p (BreakTo l) = bound_same z (BreakTo l)
  fold_law m law dropped p (ContinueTo l) = bound_same z (ContinueTo l)
  fold_law m law dropped p (Return e) = bound_same z (Return e)
  fold_law m law dropped p (TryCatch b x c) = try_catch_bound z b x c
  fold_law m law dropped p (TryFinally b f) = try_finally_bound z b f
  fold_law m law dropped p (TryBoth b x c f) = try_both_bound z b x c f

-- by weight and by words
in_statement : (s t : Statement) (n : ℕ) → R by_weight s t n → R by_words s t n → Pays s t n
in_statement s t n p q = record {
  weight_falls = let a : measure by_weight t + n ≤ measure by_weight s = p.0 in let b : measure by_weight t ≡ weight t = weight_is t in let c : measure by_weight s ≡ weight s = weight_is s in omega arith;
  words_never_grow = let a : measure by_words t + 0 ≤ measure by_words s = q.0 in let b : measure by_words t ≡ length (encode t) = words_is t in let c : measure by_words s ≡ length (encode s) = words_is s in omega arith;
  none_same = p.1;
  same_none = λ e. let a : measure by_weight t + n ≤ measure by_weight s = p.0 in let b : measure by_weight t ≡ measure by_weight s = ap (measure by_weight) e in omega arith;
}

in_script : (s t : Statements) (n : ℕ) → L by_weight s t n → L by_words s t n → PaysScript s t n
in_script s t n p q = record {
  weight_falls = let a : measure_list by_weight t + n ≤ measure_list by_weight s = p.0 in let b : measure_list by_weight t ≡ weight_list t = weight_list_is t in let c : measure_list by_weight s ≡ weight_list s = weight_list_is s in omega arith;
  words_never_grow = let a : measure_list by_words t + 0 ≤ measure_list by_words s = q.0 in let b : measure_list by_words t ≡ length (encode_list t) = words_list_is t in let c : measure_list by_words s ≡ length (encode_list s) = words_list_is s in omega arith;
  none_same = p.1;
  same_none = λ e. let a : measure_list by_weight t + n ≤ measure_list by_weight s = p.0 in let b : measure_list by_weight t ≡ measure_list by_weight s = ap (measure_list by_weight) e in omega arith;
}

pub fold_pays : FoldPays
fold_pays m law dropped p s = in_statement s _ _ (fold_law by_weight m law dropped p s) (fold_law by_words m law dropped p s)

pub step_pays : StepPays
step_pays m law dropped n ss = in_script ss _ _
    (step_list_law m dropped (R by_weight) (L by_weight) (C by_weight) (closed by_weight) (fold_law by_weight m law dropped) n block_parent ss)
    (step_list_law m dropped (R by_words) (L by_words) (C by_words) (closed by_words) (fold_law by_words m law dropped) n block_parent ss)

pub pass_pays : PassPays
pass_pays m law dropped ss = in_script ss _ _
    (pass_list_law m dropped (R by_weight) (L by_weight) (C by_weight) (closed by_weight) (fold_law by_weight m law dropped) block_parent ss)
    (pass_list_law m dropped (R by_words) (L by_words) (C by_words) (closed by_words) (fold_law by_words m law dropped) block_parent ss)

script_chain : (s t u : Statements) (n k : ℕ) → PaysScript s t n → PaysScript t u k → PaysScript s u (n + k)
script_chain s t u n k p q = record {
  weight_falls = let a : weight_body t + n ≤ weight_body s = p.weight_falls in let b : weight_body u + k ≤ weight_body t = q.weight_falls in omega arith;
  words_never_grow = let a : length (encode_body t) ≤ length (encode_body s) = p.words_never_grow in let b : length (encode_body u) ≤ length (encode_body t) = q.words_never_grow in omega arith;
  none_same = λ r. q.none_same (zero_right n k r) ∙ p.none_same (zero_left n k r);
  same_none = λ e. let a : weight_body t + n ≤ weight_body s = p.weight_falls in let b : weight_body u + k ≤ weight_body t = q.weight_falls in let c : weight_body u ≡ weight_body s = ap weight_body e in omega arith;
}

script_same : (s : Statements) → PaysScript s s 0
script_same s = record { weight_falls = omega arith; words_never_grow = omega arith; none_same = λ r. refl; same_none = λ e. refl }

pub settle_pays : SettlePays
settle_pays m law dropped ss ts n (rests us e) = script_same us
settle_pays m law dropped ss ts n (again us vs l k e r) =
    let p : PaysScript us (pass_body m dropped us).result (suc k) = (let P : ℕ → Type 0 = λ j. PaysScript us (pass_body m dropped us).result j in subst P e (pass_pays m law dropped us)) in
    script_chain us (pass_body m dropped us).result vs (suc k) l p (settle_pays m law dropped (pass_body m dropped us).result vs l r)

-- weight bounds the passes
settle_within : (m : Model) → Lawful m → (dropped : List ℕ) (k : ℕ) (ss : Statements) → weight_body ss ≤ k → (ts : Statements) × (n : ℕ) × Settles m dropped ss ts n
settle_within m law dropped zero ss p = absurd (omega arith)
settle_within m law dropped (suc k) ss p = go (λ us q. settle_within m law dropped k us q) (pass_body m dropped ss).changes refl
  where
    go : ((us : Statements) → weight_body us ≤ k → (ts : Statements) × (n : ℕ) × Settles m dropped us ts n) → (j : ℕ) → (pass_body m dropped ss).changes ≡ j → (ts : Statements) × (n : ℕ) × Settles m dropped ss ts n
    go next zero e = (ss, 0, rests ss e)
    go next (suc j) e =
        let a : weight_body (pass_body m dropped ss).result + (pass_body m dropped ss).changes ≤ weight_body ss = (pass_pays m law dropped ss).weight_falls in
        let r = next (pass_body m dropped ss).result (omega arith) in
        (r.0, suc j + r.1, again ss r.0 r.1 j e r.2)

pub settle_ends : SettleEnds
settle_ends m law dropped ss = settle_within m law dropped (weight_body ss) ss (omega arith)

zero_suc : {A : Type 0} (n k : ℕ) → n ≡ 0 → n ≡ suc k → A
zero_suc n k p q = absurd (omega arith)

pub settle_unique : SettleUnique
settle_unique m dropped ss ts us n k (rests vs e) (rests ws f) = (refl, refl)
settle_unique m dropped ss ts us n k (rests vs e) (again ws xs l j f r) = zero_suc _ j e f
settle_unique m dropped ss ts us n k (again vs xs l j e r) (rests ws f) = zero_suc _ j f e
settle_unique m dropped ss ts us n k (again vs xs l j e r) (again ws ys o i f q) =
    let x = settle_unique m dropped _ xs ys l o r q in
    let a : l ≡ o = x.1 in let b : suc j ≡ suc i = sym e ∙ f in (x.0, omega arith)

-- Where a pass changes nothing no fold does.
module _ (m : Model) (law : Lawful m) (dropped : List ℕ) where
  pass_same : (p : Parent) (s : Statement) → (pass m dropped p s).changes ≡ 0 → (pass m dropped p s).result ≡ s
  pass_same p s = (pass_law m dropped (R by_weight) (L by_weight) (C by_weight) (closed by_weight) (fold_law by_weight m law dropped) p s).1

  list_same : (p : Parent) (ss : Statements) → (pass_list m dropped p ss).changes ≡ 0 → (pass_list m dropped p ss).result ≡ ss
  list_same p ss = (pass_list_law m dropped (R by_weight) (L by_weight) (C by_weight) (closed by_weight) (fold_law by_weight m law dropped) p ss).1

  cases_same : (cs : Cases) → (pass_cases m dropped cs).changes ≡ 0 → (pass_cases m dropped cs).result ≡ cs
  cases_same cs = (pass_cases_law m dropped (R by_weight) (L by_weight) (C by_weight) (closed by_weight) (fold_law by_weight m law dropped) cs).1

  still : (p : Parent) (s t : Statement) (n : ℕ) → n + (fold m dropped p t).changes ≡ 0 → t ≡ s → (fold m dropped p s).changes ≡ 0
  still p s t n q e = ap (λ x. (fold m dropped p x).changes) (sym e) ∙ zero_right n _ q

  -- no change at the statement, nor inside it
  abbrev Calm : Parent → Statement → Type 0
  Calm p s = ((fold m dropped p s).changes ≡ 0) × ((n : ℕ) → (step_inside m dropped n s).changes ≡ 0)

  either_calm : {A : Type 0} (b : Bool) (f g : Folded A) → f.changes ≡ 0 → g.changes ≡ 0 → (cond b f g).changes ≡ 0
  either_calm true f g p q = p
  either_calm false f g p q = q

  mutual
    unfolding pass step_inside fold

    calm : (p : Parent) (s : Statement) → (pass m dropped p s).changes ≡ 0 → Calm p s
    calm p Empty q = (refl, λ n. refl)
    calm p Break q = (refl, λ n. refl)
    calm p Continue q = (refl, λ n. refl)
    calm p (Block ss) q = let c = zero_left (pass_list m dropped block_parent ss).changes _ q in (still p _ _ _ q (ap Block (list_same block_parent ss c)), λ n. calm_list block_parent ss c n)
    calm p (Expr e) q = (refl, λ n. refl)
    calm p (Throw e) q = (refl, λ n. refl)
    calm p (Var d ds) q = (refl, λ n. refl)
    calm p (If e s) q = let c = zero_left (pass m dropped consequent_parent s).changes _ q in let k = calm consequent_parent s c in (still p _ _ _ q (ap (If e) (pass_same consequent_parent s c)), λ n. either_calm (eqb n 0) _ (step_inside m dropped (n - 1) s) k.0 (k.1 (n - 1)))
    calm p (IfElse e s t) q =
        let c = zero_left ((pass m dropped consequent_parent s).changes + (pass m dropped other_parent t).changes) _ q in
        let a = zero_left (pass m dropped consequent_parent s).changes _ c in let b = zero_right (pass m dropped consequent_parent s).changes _ c in
        let k = calm consequent_parent s a in let l = calm other_parent t b in (
          still p _ _ _ q (λ i. IfElse e (pass_same consequent_parent s a i) (pass_same other_parent t b i)),
          λ n. either_calm (ltb n (size s)) _ _ (either_calm (eqb n 0) _ (step_inside m dropped (n - 1) s) k.0 (k.1 (n - 1)))
              (either_calm (eqb (n - size s) 0) _ (step_inside m dropped (n - size s - 1) t) l.0 (l.1 (n - size s - 1))),
        )
    calm p (For i t u s) q = let c = zero_left (pass m dropped loop_parent s).changes _ q in let k = calm loop_parent s c in (still p _ _ _ q (ap (For i t u) (pass_same loop_parent s c)), λ n. either_calm (eqb n 0) _ (step_inside m dropped (n - 1) s) k.0 (k.1 (n - 1)))
    calm p (While e s) q = let c = zero_left (pass m dropped loop_parent s).changes _ q in let k = calm loop_parent s c in (still p _ _ _ q (ap (While e) (pass_same loop_parent s c)), λ n. either_calm (eqb n 0) _ (step_inside m dropped (n - 1) s) k.0 (k.1 (n - 1)))
    calm p (Do s e) q = let c = zero_left (pass m dropped loop_parent s).changes _ q in let k = calm loop_parent s c in (still p _ _ _ q (ap (λ x. Do x e) (pass_same loop_parent s c)), λ n. either_calm (eqb n 0) _ (step_inside m dropped (n - 1) s) k.0 (k.1 (n - 1)))
    calm p (Switch e cs) q = let c = zero_left (pass_cases m dropped cs).changes _ q in (still p _ _ _ q (ap (Switch e) (cases_same cs c)), λ n. calm_cases cs c n)
    calm p (Label l s) q = let c = zero_left (pass m dropped label_parent s).changes _ q in let k = calm label_parent s c in (still p _ _ _ q (ap (Label l) (pass_same label_parent s c)), λ n. either_calm (eqb n 0) _ (step_inside m dropped (n - 1) s) k.0 (k.1 (n - 1)))
    calm p (BreakTo l) q = (refl, λ n. refl)
    calm p (ContinueTo l) q = (refl, λ n. refl)
    calm p (Return e) q = (refl, λ n. refl)
    calm p (TryCatch b x d) q =
        let c = zero_left ((pass_list m dropped block_parent b).changes + (pass_list m dropped block_parent d).changes) _ q in
        let a = zero_left (pass_list m dropped block_parent b).changes _ c in let r = zero_right (pass_list m dropped block_parent b).changes _ c in (
          still p _ _ _ q (λ i. TryCatch (list_same block_parent b a i) x (list_same block_parent d r i)),
          λ n. either_calm (ltb n (size_list b)) _ _ (calm_list block_parent b a n) (calm_list block_parent d r (n - size_list b)),
        )
    calm p (TryFinally b d) q =
        let c = zero_left ((pass_list m dropped block_parent b).changes + (pass_list m dropped block_parent d).changes) _ q in
        let a = zero_left (pass_list m dropped block_parent b).changes _ c in let r = zero_right (pass_list m dropped block_parent b).changes _ c in (
          still p _ _ _ q (λ i. TryFinally (list_same block_parent b a i) (list_same block_parent d r i)),
          λ n. either_calm (ltb n (size_list b)) _ _ (calm_list block_parent b a n) (calm_list block_parent d r (n - size_list b)),
        )
    calm p (TryBoth b x d f) q =
        let c = zero_left ((pass_list m dropped block_parent b).changes + ((pass_list m dropped block_parent d).changes + (pass_list m dropped block_parent f).changes)) _ q in
        let a = zero_left (pass_list m dropped block_parent b).changes _ c in let r = zero_right (pass_list m dropped block_parent b).changes _ c in
        let u = zero_left (pass_list m dropped block_parent d).changes _ r in let v = zero_right (pass_list m dropped block_parent d).changes _ r in (
          still p _ _ _ q (λ i. TryBoth (list_same block_parent b a i) x (list_same block_parent d u i) (list_same block_parent f v i)),
          λ n. either_calm (ltb n (size_list b)) _ _ (calm_list block_parent b a n)
              (either_calm (ltb (n - size_list b) (size_list d)) _ _ (calm_list block_parent d u (n - size_list b)) (calm_list block_parent f v (n - size_list b - size_list d))),
        )

    calm_list : (p : Parent) (ss : Statements) → (pass_list m dropped p ss).changes ≡ 0 → (n : ℕ) → (step_list m dropped n p ss).changes ≡ 0
    calm_list p none q n = refl
    calm_list p (some s ss) q n =
        let a = zero_left (pass m dropped p s).changes _ q in let b = zero_right (pass m dropped p s).changes _ q in let k = calm p s a in
        either_calm (ltb n (size s)) _ _ (either_calm (eqb n 0) _ (step_inside m dropped (n - 1) s) k.0 (k.1 (n - 1))) (calm_list p ss b (n - size s))
    calm_list p (Let d ds ss) q n = either_calm (eqb n 0) _ _ refl (calm_list p ss q (n - 1))

    calm_cases : (cs : Cases) → (pass_cases m dropped cs).changes ≡ 0 → (n : ℕ) → (step_cases m dropped n cs).changes ≡ 0
    calm_cases no_case q n = refl
    calm_cases (case t ss cs) q n =
        let a = zero_left (pass_list m dropped other_parent ss).changes _ q in let b = zero_right (pass_list m dropped other_parent ss).changes _ q in
        either_calm (ltb n (size_list ss)) _ _ (calm_list other_parent ss a n) (calm_cases cs b (n - size_list ss))

settled_pass : (m : Model) (dropped : List ℕ) (ss ts : Statements) (n : ℕ) → Settles m dropped ss ts n → (pass_body m dropped ts).changes ≡ 0
settled_pass m dropped ss ts n (rests us e) = e
settled_pass m dropped ss ts n (again us vs l k e r) = settled_pass m dropped (pass_body m dropped us).result vs l r

settled_again : (m : Model) (dropped : List ℕ) (ts us : Statements) (n : ℕ) → (pass_body m dropped ts).changes ≡ 0 → Settles m dropped ts us n → (us ≡ ts) × (n ≡ 0)
settled_again m dropped ts us n q (rests vs e) = (refl, refl)
settled_again m dropped ts us n q (again vs ws l k e r) = zero_suc _ k q e

pub settled_quiet : SettledQuiet
settled_quiet m law dropped ss ts n r =
    let q : (pass_body m dropped ts).changes ≡ 0 = settled_pass m dropped ss ts n r in
    record { pass_none = q; step_none = calm_list m law dropped block_parent ts q; settle_none = λ us k. settled_again m dropped ts us k q }
