-- The fold of a For: what it makes keeps the rules and runs as before.
use Rattle.std.proofs.Common.{◌≡◌, ℕ, ◌+◌, ◌≤◌, Bool, true, false, cond, List, [], ◌∷◌, ◌++◌, map, Some, None, Option, sym, refl, ap, ◌∙◌}
use mathlib.Core.Path.{fun_ext}
use Rattle.host.specs.Model.{Model, Lawful, Declaration, by_var, by_let}
use Rattle.host.specs.Sequence.{parts_of, truth_of, effects_of}
use Rattle.meaning.specs.Completion.{normal, Evaluation, end, ◌then◌, loop}
use Rattle.meaning.specs.Run.{bound_names, let_names, eval, eval_optional, branch, branch_optional, bind_name, declare_one, declare, scope, scoped, renewed, for_body, for_loop, run}
use Rattle.words.specs.Tree.{Expression, Declarator, Name, NameInit, Start, no_start, start_expression, start_var, start_let}
use Rattle.words.specs.Tree.{Statement, For}
use Rattle.checker.specs.Check.{Around, depth_limit}
use Rattle.checker.specs.Rules.{Keeps, KnownOptional, KnownStart, inside, loop_body}
use Rattle.meaning.proofs.Surroundings.{keeps_deep}
use Rattle.meaning.specs.Fold.Folded.{unchanged, changed}
use Rattle.meaning.specs.Fold.KeepVar.{keep_var, stub_list}
use Rattle.meaning.specs.Fold.For.{drop_start, drop_update, never_entered, fold_for_truth, fold_for_test, try_fold_for}
use Rattle.meaning.proofs.Sequencing.{then_normal, names_idle, run_stub_or_empty, run_stub_list, lets_stub_list}
use Rattle.meaning.proofs.Evaluations.{eval_truth, eval_idle, all_idle}
use Rattle.meaning.proofs.Keeps.{keeps_stub_or_empty, keeps_stub_list, known_append, known_names}

module _ (m : Model) where
  start_accepted : (count : ℕ) (i : Start) → KnownStart count i → KnownStart count (drop_start m i).result
  start_accepted count no_start q = q
  start_accepted count (start_expression e) q = go (effects_of m (parts_of e))
    where
      go : (b : Bool) → KnownStart count (cond b (unchanged (start_expression e)) (changed no_start)).result
      go true = q
      go false = tt
  start_accepted count (start_var d ds) q = q
  start_accepted count (start_let d ds) q = q

  update_accepted : (count : ℕ) (u : Option Expression) → KnownOptional count u → KnownOptional count (drop_update m u).result
  update_accepted count None q = q
  update_accepted count (Some e) q = go (effects_of m (parts_of e))
    where
      go : (b : Bool) → KnownOptional count (cond b (unchanged (Some e)) (changed None)).result
      go true = q
      go false = tt

  never_accepted : (count : ℕ) (a : Around) (i : Start) (t : Expression) (u : Option Expression) (s : Statement) → Keeps count a (For i (Some t) u s) → Keeps count a (never_entered m i t u s).result
  never_accepted count a no_start t u s q = keeps_stub_or_empty count a (keep_var s) q.0
  never_accepted count a (start_expression e) t u s q = q
  never_accepted count a (start_var d ds) t u s q = (q.0, (q.1.0, known_append count ds (map Name (keep_var s)) q.1.1 (known_names count (keep_var s))))
  never_accepted count a (start_let d ds) t u s q =
      let deep : a.depth + 1 ≤ depth_limit = keeps_deep count (loop_body a) s q.4 in
      (q.0, (deep, q.1, keeps_stub_list count (inside a) (keep_var s) deep))

  truth_accepted : (count : ℕ) (a : Around) (b : Option Bool) (i : Start) (t : Expression) (u : Option Expression) (s : Statement) → Keeps count a (For i (Some t) u s) → Keeps count a (fold_for_truth m b i t u s).result
  truth_accepted count a None i t u s q = q
  truth_accepted count a (Some true) i t u s q = (q.0, q.1, tt, q.3, q.4)
  truth_accepted count a (Some false) i t u s q = never_accepted count a i t u s q

  test_accepted : (count : ℕ) (a : Around) (i : Start) (t u : Option Expression) (s : Statement) → Keeps count a (For i t u s) → Keeps count a (fold_for_test m i t u s).result
  test_accepted count a i None u s q = q
  test_accepted count a i (Some t) u s q = go (effects_of m (parts_of t))
    where
      go : (b : Bool) → Keeps count a (cond b (unchanged (For i (Some t) u s)) (fold_for_truth m (truth_of m (parts_of t)) i t u s)).result
      go true = q
      go false = truth_accepted count a (truth_of m (parts_of t)) i t u s q

  pub for_accepted : (count : ℕ) (a : Around) (i : Start) (t u : Option Expression) (s : Statement) → Keeps count a (For i t u s) → Keeps count a (try_fold_for m i t u s).result
  for_accepted count a i t u s q = test_accepted count a _ t _ s (q.0, start_accepted count i q.1, q.2, update_accepted count u q.3, q.4)

module _ (m : Model) (law : Lawful m) where
  start_run : (i : Start) (ls : List ℕ) (t u : Option Expression) (f : Evaluation) → for_loop m (drop_start m i).result ls t u f ≡ for_loop m i ls t u f
  unfolding for_loop
  start_run no_start ls t u f = refl
  start_run (start_expression e) ls t u f = go (effects_of m (parts_of e)) refl
    where
      go : (b : Bool) → effects_of m (parts_of e) ≡ b → for_loop m (cond b (unchanged (start_expression e)) (changed no_start)).result ls t u f ≡ for_loop m (start_expression e) ls t u f
      go true q = refl
      go false q = sym (eval_idle m law e q _)
  start_run (start_var d ds) ls t u f = refl
  start_run (start_let d ds) ls t u f = refl

  update_same : (u : Option Expression) → eval_optional m (drop_update m u).result ≡ eval_optional m u
  unfolding eval_optional
  update_same None = refl
  update_same (Some e) = go (effects_of m (parts_of e)) refl
    where
      go : (b : Bool) → effects_of m (parts_of e) ≡ b → eval_optional m (cond b (unchanged (Some e)) (changed None)).result ≡ eval_optional m (Some e)
      go true q = refl
      go false q = fun_ext λ f. sym (eval_idle m law e q f)

  -- a For with its test and its update as functions
  for_with : (Evaluation → Evaluation → Evaluation) → (Evaluation → Evaluation) → (Evaluation → Evaluation) → List ℕ → Evaluation → Evaluation
  for_with test update renewal ls f = test (loop ls f (λ next. renewal (update (test next (end normal))))) (end normal)

  for_start : Start → (Evaluation → Evaluation → Evaluation) → (Evaluation → Evaluation) → List ℕ → Evaluation → Evaluation
  for_start no_start test update ls f = for_with test update (λ next. next) ls f
  for_start (start_expression e) test update ls f = eval m e (λ _. for_with test update (λ next. next) ls f)
  for_start (start_var d ds) test update ls f = declare m by_var (d ∷ ds) then for_with test update (λ next. next) ls f
  for_start (start_let d ds) test update ls f = scope m (bound_names (d ∷ ds)) (declare m by_let (d ∷ ds) then for_with test update (renewed m) ls f)

  for_is : (i : Start) (ls : List ℕ) (t u : Option Expression) (f : Evaluation) → for_loop m i ls t u f ≡ for_start i (branch_optional m t) (eval_optional m u) ls f
  unfolding for_loop for_body for_start for_with
  for_is no_start ls t u f = refl
  for_is (start_expression e) ls t u f = refl
  for_is (start_var d ds) ls t u f = refl
  for_is (start_let d ds) ls t u f = refl

  for_by : (i : Start) (ls : List ℕ) (t v u x : Option Expression) (f : Evaluation) → branch_optional m t ≡ branch_optional m v → eval_optional m u ≡ eval_optional m x → for_loop m i ls t u f ≡ for_loop m i ls v x f
  for_by i ls t v u x f p q = for_is i ls t u f ∙ (λ j. for_start i (p j) (q j) ls f) ∙ sym (for_is i ls v x f)

  test_known : (t : Expression) (b : Bool) → effects_of m (parts_of t) ≡ false → truth_of m (parts_of t) ≡ Some b → (f g : Evaluation) → cond b f g ≡ branch m t f g
  test_known t b p q f g = sym (eval_truth m law t b q f g ∙ all_idle m law (parts_of t) p (cond b f g))

  test_true : (t : Expression) → effects_of m (parts_of t) ≡ false → truth_of m (parts_of t) ≡ Some true → branch_optional m None ≡ branch_optional m (Some t)
  unfolding branch_optional
  test_true t p q = fun_ext λ f. fun_ext λ g. test_known t true p q f g

  -- with a test that is false nothing comes after the start
  body_false : (t : Expression) → effects_of m (parts_of t) ≡ false → truth_of m (parts_of t) ≡ Some false → (renewal : Evaluation → Evaluation) (ls : List ℕ) (u : Option Expression) (f : Evaluation) →
      for_body m renewal ls (Some t) u f ≡ end normal
  unfolding for_body branch_optional
  body_false t p q renewal ls u f = sym (test_known t false p q _ (end normal))

  declare_append : (by : Declaration) (ds : List Declarator) (ns : List ℕ) → declare m by_var (ds ++ map Name ns) ≡ declare m by_var ds
  unfolding declare declare_one
  declare_append by [] ns = names_idle m ns
  declare_append by (Name x ∷ ds) ns = declare_append by ds ns
  declare_append by (NameInit x e ∷ ds) ns = ap (λ f. eval m e (λ v. bind_name m by_var x (Some v) f)) (declare_append by ds ns)

  append_none : (xs ys : List ℕ) → ys ≡ [] → xs ++ ys ≡ xs
  append_none [] ys p = p
  append_none (x ∷ xs) ys p = ap (λ zs. x ∷ zs) (append_none xs ys p)

  never_run : (i : Start) (ls : List ℕ) (t : Expression) (u : Option Expression) (s : Statement) → effects_of m (parts_of t) ≡ false → truth_of m (parts_of t) ≡ Some false →
      run m (never_entered m i t u s).result ls ≡ run m (For i (Some t) u s) ls
  unfolding run for_loop scoped
  never_run no_start ls t u s p q = run_stub_or_empty m (keep_var s) ls ∙ sym (body_false t p q _ ls u _)
  never_run (start_expression e) ls t u s p q = refl
  never_run (start_var d ds) ls t u s p q =
      declare_append by_var (d ∷ ds) (keep_var s) ∙ sym (then_normal _) ∙ ap (λ f. declare m by_var (d ∷ ds) then f) (sym (body_false t p q _ ls u _))
  never_run (start_let d ds) ls t u s p q =
      (λ j. scope m (append_none (bound_names (d ∷ ds)) (let_names (stub_list (keep_var s))) (lets_stub_list m (keep_var s)) j)
      (declare m by_let (d ∷ ds) then (run_stub_list m (keep_var s) ∙ sym (body_false t p q (renewed m) ls u (run m s []))) j))

  truth_run : (b : Option Bool) (i : Start) (ls : List ℕ) (t : Expression) (u : Option Expression) (s : Statement) → effects_of m (parts_of t) ≡ false → truth_of m (parts_of t) ≡ b →
      run m (fold_for_truth m b i t u s).result ls ≡ run m (For i (Some t) u s) ls
  unfolding run
  truth_run None i ls t u s p q = refl
  truth_run (Some true) i ls t u s p q = for_by i ls None (Some t) u u _ (test_true t p q) refl
  truth_run (Some false) i ls t u s p q = never_run i ls t u s p q

  for_test_run : (i : Start) (ls : List ℕ) (t u : Option Expression) (s : Statement) → run m (fold_for_test m i t u s).result ls ≡ run m (For i t u s) ls
  for_test_run i ls None u s = refl
  for_test_run i ls (Some t) u s = go (effects_of m (parts_of t)) refl
    where
      go : (b : Bool) → effects_of m (parts_of t) ≡ b → run m (cond b (unchanged (For i (Some t) u s)) (fold_for_truth m (truth_of m (parts_of t)) i t u s)).result ls ≡ run m (For i (Some t) u s) ls
      go true q = refl
      go false q = truth_run (truth_of m (parts_of t)) i ls t u s q refl

  pub for_run : (i : Start) (t u : Option Expression) (s : Statement) (ls : List ℕ) → run m (try_fold_for m i t u s).result ls ≡ run m (For i t u s) ls
  unfolding run
  for_run i t u s ls =
      for_test_run (drop_start m i).result ls t (drop_update m u).result s
      ∙ start_run i ls t (drop_update m u).result (run m s [])
      ∙ for_by i ls t t (drop_update m u).result u _ refl (update_same u)
