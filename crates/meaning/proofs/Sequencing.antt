-- Lists one after the other, stubs, and what never goes on.
use Rattle.std.proofs.Common.{◌≡◌, ℕ, true, cond, List, [], ◌∷◌, ◌++◌, map, sym, refl, ap, ◌∙◌, append_assoc}
use mathlib.Core.Path.{fun_ext}
use Rattle.host.specs.Model.{Model, Value, World, Outcome, gives, throws, no_return, by_var, by_let}
use Rattle.meaning.specs.Completion.{Ending, normal, break, continue, gone, spent, break_to, continue_to, return, throw, Evaluation, end, ◌thereafter◌, if_normal, ◌then◌}
use Rattle.meaning.specs.Run.{bound_names, let_names, act, eval_parts, eval, declare_one, declare, run, run_list}
use Rattle.words.specs.Tree.{Expression, expression, Declarator, Name, NameInit}
use Rattle.words.specs.Tree.{Statements, none, some, Let}
use Rattle.meaning.specs.Fold.KeepVar.{stub_or_empty, stub_list}
use Rattle.meaning.specs.Fold.IsTerminated.{all_bare}
use Rattle.meaning.specs.Fold.Select.{join}
use Rattle.meaning.proofs.Within.{Within}
use Rattle.meaning.proofs.Terminated.{Abrupt}

after_normal : (e : Ending) → if_normal (end normal) e ≡ end e
unfolding if_normal
after_normal normal = refl
after_normal break = refl
after_normal continue = refl
after_normal gone = refl
after_normal spent = refl
after_normal (break_to l) = refl
after_normal (continue_to l) = refl
after_normal (return v) = refl
after_normal (throw v) = refl

pub then_normal : (f : Evaluation) → f then end normal ≡ f
unfolding ◌then◌ ◌thereafter◌ end
then_normal f = λ i k w. after_normal (f k w).ending i (f k w).rounds (f k w).world

pub normal_then : (f : Evaluation) → end normal then f ≡ f
unfolding ◌then◌ ◌thereafter◌ end if_normal
normal_then f = refl

if_normal_then : (f g : Evaluation) (e : Ending) → if_normal f e then g ≡ if_normal (f then g) e
unfolding if_normal end ◌then◌ ◌thereafter◌
if_normal_then f g normal = refl
if_normal_then f g break = refl
if_normal_then f g continue = refl
if_normal_then f g gone = refl
if_normal_then f g spent = refl
if_normal_then f g (break_to l) = refl
if_normal_then f g (continue_to l) = refl
if_normal_then f g (return v) = refl
if_normal_then f g (throw v) = refl

pub then_assoc : (f g j : Evaluation) → (f then g) then j ≡ f then (g then j)
unfolding ◌then◌ ◌thereafter◌
then_assoc f g j = λ i k w. if_normal_then g j (f k w).ending i (f k w).rounds (f k w).world

-- what never ends normally is not followed
pub abrupt_then : (f g : Evaluation) → Within Abrupt f → f then g ≡ f
unfolding ◌then◌ ◌thereafter◌ end if_normal
abrupt_then f g p = λ i k w. cond ((p k w).0 i) g (end (f k w).ending) (f k w).rounds (f k w).world

act_then : {A : Type 0} (o : Outcome A) (c : A → Evaluation) (g : Evaluation) (k : ℕ) (w : World) → (act o c then g) k w ≡ act o (λ a. c a then g) k w
unfolding act ◌then◌ ◌thereafter◌ end if_normal
act_then (gives a u) c g k w = refl
act_then (throws v u) c g k w = refl
act_then no_return c g k w = refl

module _ (m : Model) where
  parts_then : (x : ℕ) (xs : List ℕ) (c : Value → Evaluation) (g : Evaluation) → eval_parts m x xs c then g ≡ eval_parts m x xs (λ v. c v then g)
  unfolding eval_parts ◌then◌ ◌thereafter◌
  parts_then x [] c g = λ i k w. act_then (m.evaluate x w) c g k w i
  parts_then x (y ∷ ys) c g = fun_ext λ k. fun_ext λ w.
      act_then (m.evaluate x w) (λ _. eval_parts m y ys c) g k w ∙ ap (λ f. act (m.evaluate x w) (λ _. f) k w) (parts_then y ys c g)

  pub eval_then : (e : Expression) (c : Value → Evaluation) (g : Evaluation) → eval m e c then g ≡ eval m e (λ v. c v then g)
  unfolding eval
  eval_then (expression x xs) c g = parts_then x xs c g

  pub run_join : (ss ts : Statements) → run_list m (join ss ts) ≡ run_list m ss then run_list m ts
  unfolding run
  run_join none ts = sym (normal_then _)
  run_join (some s ss) ts = ap (λ x. run m s [] then x) (run_join ss ts) ∙ sym (then_assoc _ _ _)
  run_join (Let d ds ss) ts = ap (λ x. declare m by_let (d ∷ ds) then x) (run_join ss ts) ∙ sym (then_assoc _ _ _)

  -- names without initializers do nothing
  pub bare_idle : (ds : List Declarator) → all_bare ds ≡ true → declare m by_var ds ≡ end normal
  unfolding declare declare_one
  bare_idle [] q = refl
  bare_idle (Name x ∷ ds) q = bare_idle ds q
  bare_idle (NameInit x e ∷ ds) q = cc

  pub names_idle : (ns : List ℕ) → declare m by_var (map Name ns) ≡ end normal
  unfolding declare declare_one
  names_idle [] = refl
  names_idle (n ∷ ns) = names_idle ns

  pub run_stub_or_empty : (ns : List ℕ) (ls : List ℕ) → run m (stub_or_empty ns) ls ≡ end normal
  unfolding run declare declare_one
  run_stub_or_empty [] ls = refl
  run_stub_or_empty (n ∷ ns) ls = names_idle ns

  pub run_stub_list : (ns : List ℕ) → run_list m (stub_list ns) ≡ end normal
  unfolding run declare declare_one
  run_stub_list [] = refl
  run_stub_list (n ∷ ns) = then_normal _ ∙ names_idle ns

  pub lets_stub_list : (ns : List ℕ) → let_names (stub_list ns) ≡ []
  lets_stub_list [] = refl
  lets_stub_list (n ∷ ns) = refl

pub lets_join : (ss ts : Statements) → let_names (join ss ts) ≡ let_names ss ++ let_names ts
lets_join none ts = refl
lets_join (some s ss) ts = lets_join ss ts
lets_join (Let d ds ss) ts = ap (λ x. bound_names (d ∷ ds) ++ x) (lets_join ss ts) ∙ sym (append_assoc (bound_names (d ∷ ds)) (let_names ss) (let_names ts))
