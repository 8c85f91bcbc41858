-- Runs that are alike inside a Switch, which absorbs break; and dropping the last Break of a Switch.
use Rattle.std.proofs.Common.{◌≡◌, ℕ, Bool, true, false, cond, List, [], ◌∷◌, ◌++◌, Some, None, Option, sym, refl, ap, ◌∙◌, arith}
use mathlib.Core.Path.{fun_ext}
use Rattle.host.specs.Model.{Model, Value, World, Outcome, gives, throws, no_return}
use Rattle.meaning.specs.Completion.{Ending, normal, break, continue, gone, spent, break_to, continue_to, return, throw, Completion, Evaluation, is_normal, without_break, end, ◌thereafter◌, if_normal, ◌then◌, breakable, unless_stopped}
use Rattle.meaning.specs.Run.{bound_names, let_names, let_names_cases, act, eval_parts, eval, leaving, scope, scoped, Clauses, fall_through, if_default, from_default, if_selected, select_case, switch, run, run_list, run_cases}
use Rattle.words.specs.Tree.{Expression, expression}
use Rattle.words.specs.Tree.{Statement, Empty, Break, Continue, Block, Expr, Throw, Var, If, IfElse, For, While, Do, Switch, Label, BreakTo, ContinueTo, Return, TryCatch, TryFinally, TryBoth}
use Rattle.words.specs.Tree.{Statements, none, some, Let, Cases, no_case, case}
use Rattle.meaning.specs.Fold.Switch.{is_blank, all_blank, is_break, without_last_break, cases_without_last_break, cases_from_default, is_literal, is_removable, finish_switch}
use Rattle.meaning.proofs.Sequencing.{then_normal}
use Rattle.meaning.proofs.Terminated.{and_left, and_right}

-- what a Switch makes of what comes after a list
pub pick : Evaluation → Ending → Evaluation
pick g e = cond (is_normal e) g (end (without_break e))

pub pick_is : (g : Evaluation) (e : Ending) → breakable (if_normal g e) ≡ pick (breakable g) e
unfolding if_normal end ◌thereafter◌ pick breakable
pick_is g normal = refl
pick_is g break = refl
pick_is g continue = refl
pick_is g gone = refl
pick_is g spent = refl
pick_is g (break_to l) = refl
pick_is g (continue_to l) = refl
pick_is g (return v) = refl
pick_is g (throw v) = refl

pub breakable_then : (f g : Evaluation) → breakable (f then g) ≡ f thereafter pick (breakable g)
unfolding breakable ◌then◌ ◌thereafter◌
breakable_then f g = λ i k w. pick_is g (f k w).ending i (f k w).rounds (f k w).world

pub then_by : (f g g' : Evaluation) → breakable g ≡ breakable g' → breakable (f then g) ≡ breakable (f then g')
then_by f g g' p = breakable_then f g ∙ ap (λ x. f thereafter pick x) p ∙ sym (breakable_then f g')

pub breakable_both : (f g : Evaluation) → breakable f ≡ breakable (end normal) → breakable g ≡ breakable (end normal) → breakable (f then g) ≡ breakable (end normal)
breakable_both f g p q = then_by f g (end normal) q ∙ ap breakable (then_normal f) ∙ p

pub breakable_cond : (b : Bool) (f g f' g' : Evaluation) → breakable f ≡ breakable f' → breakable g ≡ breakable g' → breakable (cond b f g) ≡ breakable (cond b f' g')
breakable_cond true f g f' g' p q = p
breakable_cond false f g f' g' p q = q

pub breakable_break : breakable (end break) ≡ breakable (end normal)
unfolding breakable ◌thereafter◌ end
breakable_break = refl

pub not_last : (t : Option Expression) (ss : Statements) → no_case ≡ case t ss no_case → ⊥
not_last t ss q = let z : ◌≡◌ {A = ℕ} 0 1 = cc in omega arith

module _ (m : Model) where
  pub default_from : (cs : Cases) → from_default m (run_cases m cs) ≡ fall_through m (run_cases m (cases_from_default cs))
  unfolding from_default if_default fall_through run cases_from_default
  default_from no_case = refl
  default_from (case None ss cs) = refl
  default_from (case (Some t) ss cs) = default_from cs

  pub no_cases : (d : Expression) → eval m d (λ _. end normal) ≡ switch m d (let_names_cases no_case) []
  unfolding switch scoped select_case from_default ◌thereafter◌ end breakable
  no_cases d = refl

  pub breakable_act : {A : Type 0} (o : Outcome A) (c : A → Evaluation) (k : ℕ) (w : World) → breakable (act o c) k w ≡ act o (λ a. breakable (c a)) k w
  unfolding breakable act ◌thereafter◌ end
  breakable_act (gives a w') c k w = refl
  breakable_act (throws v w') c k w = refl
  breakable_act no_return c k w = refl

  pub breakable_parts : (x : ℕ) (xs : List ℕ) (c : Value → Evaluation) → breakable (eval_parts m x xs c) ≡ eval_parts m x xs (λ v. breakable (c v))
  unfolding eval_parts breakable ◌thereafter◌
  breakable_parts x [] c = λ i k w. breakable_act (m.evaluate x w) c k w i
  breakable_parts x (y ∷ ys) c = fun_ext λ k. fun_ext λ w.
      breakable_act (m.evaluate x w) (λ _. eval_parts m y ys c) k w ∙ ap (λ f. act (m.evaluate x w) (λ _. f) k w) (breakable_parts y ys c)

  pub breakable_eval : (e : Expression) (c : Value → Evaluation) → breakable (eval m e c) ≡ eval m e (λ v. breakable (c v))
  unfolding eval
  breakable_eval (expression x xs) c = breakable_parts x xs c

  pub eval_alike : (e : Expression) (c d : Value → Evaluation) → ((v : Value) → breakable (c v) ≡ breakable (d v)) → breakable (eval m e c) ≡ breakable (eval m e d)
  eval_alike e c d p = breakable_eval e c ∙ (λ i. eval m e (λ v. p v i)) ∙ sym (breakable_eval e d)

  pub leave_break : (e : Ending) → breakable (unless_stopped (leaving m) e) ≡ unless_stopped (leaving m) (without_break e)
  unfolding unless_stopped leaving end ◌thereafter◌ breakable
  leave_break normal = refl
  leave_break break = refl
  leave_break continue = refl
  leave_break gone = refl
  leave_break spent = refl
  leave_break (break_to l) = refl
  leave_break (continue_to l) = refl
  leave_break (return v) = refl
  leave_break (throw v) = refl

  pub breakable_scoped : (ns : List ℕ) (f : Evaluation) → breakable (scoped m ns f) ≡ scoped m ns (breakable f)
  unfolding breakable scoped scope ◌thereafter◌ end
  breakable_scoped [] f = refl
  breakable_scoped (n ∷ ns) f = λ i k w.
      let o : Completion = f k (m.enter (n ∷ ns) w) in leave_break o.ending i o.rounds o.world

  -- Switches whose choices are alike
  pub switch_by : (d : Expression) (ns ns' : List ℕ) (as₁ as₂ : Clauses m) → ns ≡ ns' →
      ((v : Value) → breakable (select_case m v as₁ (from_default m as₁)) ≡ breakable (select_case m v as₂ (from_default m as₂))) → switch m d ns as₁ ≡ switch m d ns' as₂
  unfolding switch
  switch_by d ns ns' as₁ as₂ n p = λ i. eval m d (λ v.
      (breakable_scoped ns (select_case m v as₁ (from_default m as₁)) ∙ (λ j. scoped m (n j) (p v j)) ∙ sym (breakable_scoped ns' (select_case m v as₂ (from_default m as₂)))) i)

  pub blank_run : (s : Statement) → is_blank true s ≡ true → breakable (run m s []) ≡ breakable (end normal)
  unfolding is_blank run breakable ◌thereafter◌ end
  blank_run Empty q = refl
  blank_run Break q = refl
  blank_run Continue q = cc
  blank_run (Block ss) q = cc
  blank_run (Expr e) q = cc
  blank_run (Throw e) q = cc
  blank_run (Var d ds) q = cc
  blank_run (If e s) q = cc
  blank_run (IfElse e s t) q = cc
  blank_run (For i t u s) q = cc
  blank_run (While e s) q = cc
  blank_run (Do s e) q = cc
  blank_run (Switch d cs) q = cc
  blank_run (Label l s) q = cc
  blank_run (BreakTo l) q = cc
  blank_run (ContinueTo l) q = cc
  blank_run (Return e) q = cc
  blank_run (TryCatch b x c) q = cc
  blank_run (TryFinally b f) q = cc
  blank_run (TryBoth b x c f) q = cc

  pub blank_idle : (s : Statement) → is_blank false s ≡ true → run m s [] ≡ end normal
  unfolding is_blank run
  blank_idle Empty q = refl
  blank_idle Break q = cc
  blank_idle Continue q = cc
  blank_idle (Block ss) q = cc
  blank_idle (Expr e) q = cc
  blank_idle (Throw e) q = cc
  blank_idle (Var d ds) q = cc
  blank_idle (If e s) q = cc
  blank_idle (IfElse e s t) q = cc
  blank_idle (For i t u s) q = cc
  blank_idle (While e s) q = cc
  blank_idle (Do s e) q = cc
  blank_idle (Switch d cs) q = cc
  blank_idle (Label l s) q = cc
  blank_idle (BreakTo l) q = cc
  blank_idle (ContinueTo l) q = cc
  blank_idle (Return e) q = cc
  blank_idle (TryCatch b x c) q = cc
  blank_idle (TryFinally b f) q = cc
  blank_idle (TryBoth b x c f) q = cc

  pub break_run : (s : Statement) → is_break s ≡ true → run m s [] ≡ end break
  unfolding is_break run
  break_run Empty q = cc
  break_run Break q = refl
  break_run Continue q = cc
  break_run (Block ss) q = cc
  break_run (Expr e) q = cc
  break_run (Throw e) q = cc
  break_run (Var d ds) q = cc
  break_run (If e s) q = cc
  break_run (IfElse e s t) q = cc
  break_run (For i t u s) q = cc
  break_run (While e s) q = cc
  break_run (Do s e) q = cc
  break_run (Switch d cs) q = cc
  break_run (Label l s) q = cc
  break_run (BreakTo l) q = cc
  break_run (ContinueTo l) q = cc
  break_run (Return e) q = cc
  break_run (TryCatch b x c) q = cc
  break_run (TryFinally b f) q = cc
  break_run (TryBoth b x c f) q = cc

  pub blank_list_run : (ss : Statements) → all_blank true ss ≡ true → breakable (run_list m ss) ≡ breakable (end normal)
  unfolding all_blank run
  blank_list_run none q = refl
  blank_list_run (some s none) q = breakable_both _ _ (blank_run s q) refl
  blank_list_run (some s (some t ss)) q = cc
  blank_list_run (some s (Let d ds ss)) q = cc
  blank_list_run (Let d ds ss) q = cc

  pub blank_list_idle : (ss : Statements) → all_blank false ss ≡ true → run_list m ss ≡ end normal
  unfolding all_blank run
  blank_list_idle none q = refl
  blank_list_idle (some s none) q = then_normal _ ∙ blank_idle s q
  blank_list_idle (some s (some t ss)) q = cc
  blank_list_idle (some s (Let d ds ss)) q = cc
  blank_list_idle (Let d ds ss) q = cc

  pub blank_list_lets : (b : Bool) (ss : Statements) → all_blank b ss ≡ true → let_names ss ≡ []
  unfolding all_blank
  blank_list_lets b none q = refl
  blank_list_lets b (some s none) q = refl
  blank_list_lets b (some s (some t ss)) q = cc
  blank_list_lets b (some s (Let d ds ss)) q = cc
  blank_list_lets b (Let d ds ss) q = cc

  pub removable_blank : (b : Bool) (t : Option Expression) (ss : Statements) → is_removable m b t ss ≡ true → all_blank b ss ≡ true
  unfolding is_removable
  removable_blank b t ss q = and_left _ _ q

  pub removable_literal : (b : Bool) (t : Option Expression) (ss : Statements) → is_removable m b t ss ≡ true → is_literal m t ≡ true
  unfolding is_removable
  removable_literal b t ss q = and_right (all_blank b ss) _ q

  -- the same select-case over like bodies
  pub selected_by : (v : Value) (t : Option Expression) (f g f' g' : Evaluation) → breakable f ≡ breakable f' → breakable g ≡ breakable g' →
      breakable (if_selected m v t f g) ≡ breakable (if_selected m v t f' g')
  unfolding if_selected
  selected_by v None f g f' g' p q = q
  selected_by v (Some t) f g f' g' p q = eval_alike t _ _ (λ u. breakable_cond (m.strictly_equal v u) f g f' g' p q)

  pub default_by : (t : Option Expression) (f g f' g' : Evaluation) → breakable f ≡ breakable f' → breakable g ≡ breakable g' →
      breakable (if_default m t f g) ≡ breakable (if_default m t f' g')
  unfolding if_default
  default_by None f g f' g' p q = p
  default_by (Some t) f g f' g' p q = q

  -- the no-case Break
  pub last_run : (ss : Statements) → breakable (run_list m (without_last_break ss)) ≡ breakable (run_list m ss)
  unfolding without_last_break run
  last_run none = refl
  last_run (some s none) = go (is_break s) refl
    where
      go : (b : Bool) → is_break s ≡ b → breakable (run_list m (cond b none (some s none))) ≡ breakable (run m s [] then end normal)
      go true q = sym (breakable_both _ _ (ap breakable (break_run s q) ∙ breakable_break) refl)
      go false q = refl
  last_run (some s (some t ss)) = then_by _ _ _ (last_run (some t ss))
  last_run (some s (Let d ds ss)) = then_by _ _ _ (last_run (Let d ds ss))
  last_run (Let d ds ss) = then_by _ _ _ (last_run ss)

  pub last_lets : (ss : Statements) → let_names (without_last_break ss) ≡ let_names ss
  unfolding without_last_break
  last_lets none = refl
  last_lets (some s none) = go (is_break s)
    where
      go : (b : Bool) → let_names (cond b none (some s none)) ≡ []
      go true = refl
      go false = refl
  last_lets (some s (some t ss)) = last_lets (some t ss)
  last_lets (some s (Let d ds ss)) = last_lets (Let d ds ss)
  last_lets (Let d ds ss) = ap (λ x. bound_names (d ∷ ds) ++ x) (last_lets ss)

  pub last_fall_through : (cs : Cases) → breakable (fall_through m (run_cases m (cases_without_last_break cs))) ≡ breakable (fall_through m (run_cases m cs))
  unfolding cases_without_last_break run fall_through
  last_fall_through no_case = refl
  last_fall_through (case t ss no_case) = ap breakable (then_normal _) ∙ last_run ss ∙ sym (ap breakable (then_normal _))
  last_fall_through (case t ss (case t' ss' cs)) = then_by _ _ _ (last_fall_through (case t' ss' cs))

  pub last_default : (cs : Cases) → breakable (from_default m (run_cases m (cases_without_last_break cs))) ≡ breakable (from_default m (run_cases m cs))
  unfolding cases_without_last_break run fall_through from_default
  last_default no_case = refl
  last_default (case t ss no_case) = default_by t _ _ _ _ (last_fall_through (case t ss no_case)) refl
  last_default (case t ss (case t' ss' cs)) =
      default_by t _ _ _ _ (last_fall_through (case t ss (case t' ss' cs))) (last_default (case t' ss' cs))

  pub last_select : (v : Value) (cs : Cases) (g g' : Evaluation) → breakable g ≡ breakable g' →
      breakable (select_case m v (run_cases m (cases_without_last_break cs)) g) ≡ breakable (select_case m v (run_cases m cs) g')
  unfolding cases_without_last_break run fall_through select_case
  last_select v no_case g g' p = p
  last_select v (case t ss no_case) g g' p = selected_by v t _ _ _ _ (last_fall_through (case t ss no_case)) p
  last_select v (case t ss (case t' ss' cs)) g g' p =
      selected_by v t _ _ _ _ (last_fall_through (case t ss (case t' ss' cs))) (last_select v (case t' ss' cs) g g' p)

  pub last_lets_cases : (cs : Cases) → let_names_cases (cases_without_last_break cs) ≡ let_names_cases cs
  unfolding cases_without_last_break
  last_lets_cases no_case = refl
  last_lets_cases (case t ss no_case) = ap (λ x. x ++ []) (last_lets ss)
  last_lets_cases (case t ss (case t' ss' cs)) = ap (λ x. let_names ss ++ x) (last_lets_cases (case t' ss' cs))

  pub finish_same : (d : Expression) (cs : Cases) → run m (finish_switch m d cs).result [] ≡ run m (Switch d cs) []
  unfolding run
  finish_same d no_case = no_cases d
  finish_same d (case t ss cs) =
      switch_by d _ _ _ _ (last_lets_cases (case t ss cs)) (λ v. last_select v (case t ss cs) _ _ (last_default (case t ss cs)))
