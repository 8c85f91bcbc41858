-- The fold of an If: what it makes keeps the rules and runs as before.
use Rattle.std.proofs.Common.{◌≡◌, ℕ, ◌≤◌, Bool, true, false, cond, not, ◌||◌, List, [], ◌∷◌, Some, None, Option, sym, refl, ap, ◌∙◌, arith}
use Rattle.host.specs.Model.{Model, Lawful}
use Rattle.host.specs.Sequence.{parts_of, truth_of, effects_of}
use Rattle.meaning.specs.Completion.{normal, Evaluation, end}
use Rattle.meaning.specs.Run.{branch, scoped, run}
use Rattle.words.specs.Tree.{Expression}
use Rattle.words.specs.Tree.{Statement, Empty, Break, Continue, Block, Expr, Throw, Var, If, IfElse, For, While, Do, Switch, Label, BreakTo, ContinueTo, Return, TryCatch, TryFinally, TryBoth}
use Rattle.words.specs.Tree.{none, some, Let}
use Rattle.checker.specs.Check.{Around, depth_limit}
use Rattle.checker.specs.Rules.{Keeps, Known, inside}
use Rattle.meaning.specs.FoldLaws.{Sound}
use Rattle.meaning.proofs.Surroundings.{widen, wider_out, keeps_deep, run_out}
use Rattle.meaning.specs.Fold.Folded.{folded, unchanged, changed, if_so}
use Rattle.meaning.specs.Fold.KeepVar.{keep_var, stub_var}
use Rattle.meaning.specs.Fold.IsTerminated.{is_bare_var}
use Rattle.meaning.specs.Fold.If.{if_statement, literal_test, is_literal_test, is_empty, or_empty, keep_optional, is_present, stub_branch, stub_alternate, not_granted, write_test, fold_true, fold_false, fold_test, fold_alternate, try_fold_if, try_fold_if_else}
use Rattle.meaning.proofs.Evaluations.{all_then, eval_truth, all_idle}
use Rattle.meaning.proofs.Keeps.{keeps_stub_var}

-- an alternate that may be absent
abbrev pub KeepsOptional : ℕ → Around → Option Statement → Type 0
KeepsOptional count a None = Unit {0}
KeepsOptional count a (Some s) = Keeps count a s

abbrev run_optional : Model → Option Statement → Evaluation
run_optional m None = end normal
run_optional m (Some s) = run m s []

module _ (count : ℕ) (enough : 2 ≤ count) (m : Model) where
  literal_known : (b : Bool) → Known count (literal_test b)
  literal_known true = (omega arith, tt)
  literal_known false = (omega arith, tt)

  write_accepted : (b : Bool) (e : Expression) → Known count e → Known count (write_test m b e).result
  write_accepted b e q = go (effects_of m (parts_of e))
    where
      go : (c : Bool) → Known count (cond c (unchanged e) (folded (literal_test b) (if_so (not (is_literal_test b e))))).result
      go true = q
      go false = literal_known b

  pub if_keeps : (a : Around) (e : Expression) (s : Statement) (t : Option Statement) → a.depth ≤ depth_limit → Known count e → Keeps count (inside a) s → KeepsOptional count (inside a) t → Keeps count a (if_statement e s t)
  if_keeps a e s None d p q r = (d, p, q)
  if_keeps a e s (Some t) d p q r = (d, p, q, r)

  stub_accepted : (a : Around) (s : Statement) (x : ℕ) (xs : List ℕ) → Keeps count a s → Keeps count a (stub_branch s x xs).result
  stub_accepted a s x xs q = go (is_bare_var s)
    where
      go : (b : Bool) → Keeps count a (cond b (unchanged s) (changed (stub_var x xs))).result
      go true = q
      go false = keeps_stub_var count a x xs (keeps_deep count a s q)

  stub_alternate_accepted : (a : Around) (t : Option Statement) (x : ℕ) (xs : List ℕ) → KeepsOptional count a t → KeepsOptional count a (stub_alternate t x xs).result
  stub_alternate_accepted a None x xs q = tt
  stub_alternate_accepted a (Some t) x xs q = stub_accepted a t x xs q

  or_empty_accepted : (a : Around) (t : Option Statement) → a.depth ≤ depth_limit → KeepsOptional count (inside a) t → Keeps count a (or_empty t)
  or_empty_accepted a None d q = d
  or_empty_accepted a (Some t) d q = widen count (inside a) a (wider_out a) t q

  true_accepted : (a : Around) (ns : List ℕ) (e : Expression) (s : Statement) (t : Option Statement) → a.depth ≤ depth_limit → Known count e → Keeps count (inside a) s → KeepsOptional count (inside a) t →
      Keeps count a (fold_true m ns e s t).result
  true_accepted a [] e s t d p q r = go (effects_of m (parts_of e))
    where
      go : (b : Bool) → Keeps count a (cond b (folded (If e s) (if_so (is_present t))) (changed s)).result
      go true = (d, p, q)
      go false = widen count (inside a) a (wider_out a) s q
  true_accepted a (x ∷ xs) e s t d p q r = if_keeps a _ s _ d (write_accepted true e p) q (stub_alternate_accepted (inside a) t x xs r)

  false_accepted : (a : Around) (ns : List ℕ) (e : Expression) (s : Statement) (t : Option Statement) → a.depth ≤ depth_limit → Known count e → Keeps count (inside a) s → KeepsOptional count (inside a) t →
      Keeps count a (fold_false m ns e s t).result
  false_accepted a [] e s t d p q r = go (effects_of m (parts_of e))
    where
      go : (b : Bool) → Keeps count a (cond b (folded (if_statement e Empty t) (if_so (not (is_empty s)))) (changed (or_empty t))).result
      go true = if_keeps a e Empty t d p (keeps_deep count (inside a) s q) r
      go false = or_empty_accepted a t d r
  false_accepted a (x ∷ xs) e s t d p q r = if_keeps a _ _ t d (write_accepted false e p) (stub_accepted (inside a) s x xs q) r

  parts_accepted : (a : Around) (b : Option Bool) (e : Expression) (s : Statement) (t : Option Statement) → a.depth ≤ depth_limit → Known count e → Keeps count (inside a) s → KeepsOptional count (inside a) t →
      Keeps count a (fold_test m b e s t).result
  parts_accepted a None e s t d p q r = if_keeps a e s t d p q r
  parts_accepted a (Some true) e s t d p q r = true_accepted a (not_granted m (keep_optional t)) e s t d p q r
  parts_accepted a (Some false) e s t d p q r = false_accepted a (not_granted m (keep_var s)) e s t d p q r

  pub alternate_accepted : (a : Around) (s : Statement) → Keeps count a s → KeepsOptional count a (fold_alternate m s).result
  unfolding fold_alternate
  alternate_accepted a Empty q = tt
  alternate_accepted a Break q = q
  alternate_accepted a Continue q = q
  alternate_accepted a (Block none) q = tt
  alternate_accepted a (Block (some s ss)) q = q
  alternate_accepted a (Block (Let d ds ss)) q = q
  alternate_accepted a (Expr e) q = q
  alternate_accepted a (Throw e) q = q
  alternate_accepted a (Var d ds) q = q
  alternate_accepted a (If e s) q = parts_accepted a (truth_of m (parts_of e)) e s None q.0 q.1 q.2 tt
  alternate_accepted a (IfElse e s t) q = parts_accepted a (truth_of m (parts_of e)) e s (fold_alternate m t).result q.0 q.1 q.2 (alternate_accepted (inside a) t q.3)
  alternate_accepted a (For i t u s) q = q
  alternate_accepted a (While e s) q = q
  alternate_accepted a (Do s e) q = q
  alternate_accepted a (Switch e cs) q = q
  alternate_accepted a (Label k s) q = q
  alternate_accepted a (BreakTo l) q = q
  alternate_accepted a (ContinueTo l) q = q
  alternate_accepted a (Return e) q = q
  alternate_accepted a (TryCatch b x c) q = q
  alternate_accepted a (TryFinally b f) q = q
  alternate_accepted a (TryBoth b x c f) q = q

  pub if_accepted : (a : Around) (e : Expression) (s : Statement) → Keeps count a (If e s) → Keeps count a (try_fold_if m e s).result
  if_accepted a e s q = parts_accepted a (truth_of m (parts_of e)) e s None q.0 q.1 q.2 tt

  pub if_else_accepted : (a : Around) (e : Expression) (s t : Statement) → Keeps count a (IfElse e s t) → Keeps count a (try_fold_if_else m e s t).result
  if_else_accepted a e s t q = parts_accepted a (truth_of m (parts_of e)) e s (fold_alternate m t).result q.0 q.1 q.2 (alternate_accepted (inside a) t q.3)

module _ (m : Model) where
  run_if_statement : (e : Expression) (s : Statement) (t : Option Statement) (ls : List ℕ) → run m (if_statement e s t) ls ≡ branch m e (run m s []) (run_optional m t)
  unfolding run
  run_if_statement e s None ls = refl
  run_if_statement e s (Some t) ls = refl

module _ (m : Model) (law : Lawful m) where
  literal_truth : (b : Bool) → truth_of m (parts_of (literal_test b)) ≡ Some b
  literal_truth true = law.one.has_truth
  literal_truth false = law.zero.has_truth

  literal_idle : (b : Bool) (f : Evaluation) → all_then m (parts_of (literal_test b)) f ≡ f
  literal_idle true f = all_idle m law (1 ∷ []) (ap (λ x. x || false) (law.literal 1 law.one.is_literal)) f
  literal_idle false f = all_idle m law (0 ∷ []) (ap (λ x. x || false) (law.literal 0 law.zero.is_literal)) f

  -- a test of known truth runs its parts and then the branch of that truth
  branch_known : (b : Bool) (e : Expression) → truth_of m (parts_of e) ≡ Some b → (f g f' g' : Evaluation) → cond b f g ≡ cond b f' g' → branch m e f g ≡ branch m e f' g'
  branch_known b e q f g f' g' p = eval_truth m law e b q f g ∙ ap (all_then m (parts_of e)) p ∙ sym (eval_truth m law e b q f' g')

  branch_written : (b : Bool) (e : Expression) → truth_of m (parts_of e) ≡ Some b → (f g f' g' : Evaluation) → cond b f g ≡ cond b f' g' → branch m (write_test m b e).result f g ≡ branch m e f' g'
  branch_written b e q f g f' g' p = go (effects_of m (parts_of e)) refl
    where
      go : (c : Bool) → effects_of m (parts_of e) ≡ c → branch m (cond c (unchanged e) (folded (literal_test b) (if_so (not (is_literal_test b e))))).result f g ≡ branch m e f' g'
      go true r = branch_known b e q f g f' g' p
      go false r =
          eval_truth m law (literal_test b) b (literal_truth b) f g ∙ literal_idle b (cond b f g) ∙ p
          ∙ sym (eval_truth m law e b q f' g' ∙ all_idle m law (parts_of e) r (cond b f' g'))

  branch_idle : (b : Bool) (e : Expression) → truth_of m (parts_of e) ≡ Some b → effects_of m (parts_of e) ≡ false → (f g : Evaluation) → cond b f g ≡ branch m e f g
  branch_idle b e q r f g = sym (eval_truth m law e b q f g ∙ all_idle m law (parts_of e) r (cond b f g))

  true_run : (ns : List ℕ) (e : Expression) (s : Statement) (t : Option Statement) (ls : List ℕ) → run m s ls ≡ run m s [] → truth_of m (parts_of e) ≡ Some true →
      run m (fold_true m ns e s t).result ls ≡ branch m e (run m s []) (run_optional m t)
  true_run [] e s t ls k q = go (effects_of m (parts_of e)) refl
    where
      go : (b : Bool) → effects_of m (parts_of e) ≡ b → run m (cond b (folded (If e s) (if_so (is_present t))) (changed s)).result ls ≡ branch m e (run m s []) (run_optional m t)
      go true r = run_if_statement m e s None ls ∙ branch_known true e q _ _ _ _ refl
      go false r = k ∙ branch_idle true e q r (run m s []) (run_optional m t)
  true_run (x ∷ xs) e s t ls k q = run_if_statement m _ s _ ls ∙ branch_written true e q _ _ _ _ refl

  false_run : (ns : List ℕ) (e : Expression) (s : Statement) (t : Option Statement) (ls : List ℕ) → run m (or_empty t) ls ≡ run_optional m t → truth_of m (parts_of e) ≡ Some false →
      run m (fold_false m ns e s t).result ls ≡ branch m e (run m s []) (run_optional m t)
  false_run [] e s t ls k q = go (effects_of m (parts_of e)) refl
    where
      go : (b : Bool) → effects_of m (parts_of e) ≡ b → run m (cond b (folded (if_statement e Empty t) (if_so (not (is_empty s)))) (changed (or_empty t))).result ls ≡ branch m e (run m s []) (run_optional m t)
      go true r = run_if_statement m e Empty t ls ∙ branch_known false e q _ _ _ _ refl
      go false r = k ∙ branch_idle false e q r (run m s []) (run_optional m t)
  false_run (x ∷ xs) e s t ls k q = run_if_statement m _ _ t ls ∙ branch_written false e q _ _ _ _ refl

  parts_run : (b : Option Bool) (e : Expression) (s : Statement) (t : Option Statement) (ls : List ℕ) → run m s ls ≡ run m s [] → run m (or_empty t) ls ≡ run_optional m t → truth_of m (parts_of e) ≡ b →
      run m (fold_test m b e s t).result ls ≡ branch m e (run m s []) (run_optional m t)
  parts_run None e s t ls k l q = run_if_statement m e s t ls
  parts_run (Some true) e s t ls k l q = true_run (not_granted m (keep_optional t)) e s t ls k q
  parts_run (Some false) e s t ls k l q = false_run (not_granted m (keep_var s)) e s t ls l q

  empty_optional : (t : Option Statement) → run m (or_empty t) [] ≡ run_optional m t
  unfolding run
  empty_optional None = refl
  empty_optional (Some t) = refl

  alternate_run : (s : Statement) → run_optional m (fold_alternate m s).result ≡ run m s []
  unfolding fold_alternate run scoped
  alternate_run Empty = refl
  alternate_run Break = refl
  alternate_run Continue = refl
  alternate_run (Block none) = refl
  alternate_run (Block (some s ss)) = refl
  alternate_run (Block (Let d ds ss)) = refl
  alternate_run (Expr e) = refl
  alternate_run (Throw e) = refl
  alternate_run (Var d ds) = refl
  alternate_run (If e s) = parts_run (truth_of m (parts_of e)) e s None [] refl refl refl
  alternate_run (IfElse e s t) = parts_run (truth_of m (parts_of e)) e s (fold_alternate m t).result [] refl (empty_optional (fold_alternate m t).result) refl ∙ ap (branch m e (run m s [])) (alternate_run t)
  alternate_run (For i t u s) = refl
  alternate_run (While e s) = refl
  alternate_run (Do s e) = refl
  alternate_run (Switch e cs) = refl
  alternate_run (Label k s) = refl
  alternate_run (BreakTo l) = refl
  alternate_run (ContinueTo l) = refl
  alternate_run (Return e) = refl
  alternate_run (TryCatch b x c) = refl
  alternate_run (TryFinally b f) = refl
  alternate_run (TryBoth b x c f) = refl

  out_optional : (count : ℕ) (a : Around) (t : Option Statement) → Sound a → KeepsOptional count (inside a) t → run m (or_empty t) a.label_set ≡ run_optional m t
  unfolding run
  out_optional count a None k q = refl
  out_optional count a (Some t) k q = run_out m count a t k q

  pub if_run : (count : ℕ) (a : Around) (e : Expression) (s : Statement) → Sound a → Keeps count a (If e s) → run m (try_fold_if m e s).result a.label_set ≡ run m (If e s) a.label_set
  if_run count a e s k q = parts_run (truth_of m (parts_of e)) e s None a.label_set (run_out m count a s k q.2) (out_optional count a None k tt) refl ∙ sym (run_if_statement m e s None a.label_set)

  pub if_else_run : (count : ℕ) → 2 ≤ count → (a : Around) (e : Expression) (s t : Statement) → Sound a → Keeps count a (IfElse e s t) →
      run m (try_fold_if_else m e s t).result a.label_set ≡ run m (IfElse e s t) a.label_set
  if_else_run count enough a e s t k q =
      parts_run (truth_of m (parts_of e)) e s (fold_alternate m t).result a.label_set (run_out m count a s k q.2)
      (out_optional count a (fold_alternate m t).result k (alternate_accepted count enough m (inside a) t q.3)) refl
      ∙ ap (branch m e (run m s [])) (alternate_run t) ∙ sym (run_if_statement m e s (Some t) a.label_set)
