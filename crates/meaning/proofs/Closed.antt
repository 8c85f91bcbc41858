-- One induction for every law of folding: a relation between trees before and after, with the changes between them,
-- that holds of each fold and of each statement whose parts it holds of, holds of every step and pass.
use Rattle.std.proofs.Common.{◌≡◌, ℕ, ◌+◌, ◌-◌, Bool, true, false, cond, eqb, ltb, List, Option, subst, arith}
use Rattle.words.specs.Tree.{Expression, Declarator, Start}
use Rattle.words.specs.Tree.{Statement, Empty, Break, Continue, Block, Expr, Throw, Var, If, IfElse, For, While, Do, Switch, Label, BreakTo, ContinueTo, Return, TryCatch, TryFinally, TryBoth}
use Rattle.words.specs.Tree.{Statements, none, some, Let, Cases, no_case, case}
use Rattle.host.specs.Model.{Model}
use Rattle.meaning.specs.Fold.Folded.{Folded}
use Rattle.meaning.specs.Fold.Block.{Parent, loop_parent, block_parent, consequent_parent, label_parent, other_parent}
use Rattle.meaning.specs.Pass.{size, size_list, fold, fold_after, pass, pass_list, pass_cases}
use Rattle.meaning.specs.Step.{here_or, step_inside, step_list, step_cases}

pub record Closed (R : Statement → Statement → ℕ → Type 0) (L : Statements → Statements → ℕ → Type 0) (C : Cases → Cases → ℕ → Type 0) : Type 0 where
  pub same : (s : Statement) → R s s 0
  pub chain : (s t u : Statement) (n k : ℕ) → R s t n → R t u k → R s u (n + k)
  pub block : (ss ts : Statements) (n : ℕ) → L ss ts n → R (Block ss) (Block ts) n
  pub if_then : (e : Expression) (s t : Statement) (n : ℕ) → R s t n → R (If e s) (If e t) n
  pub if_else : (e : Expression) (s t u v : Statement) (n k : ℕ) → R s t n → R u v k → R (IfElse e s u) (IfElse e t v) (n + k)
  pub for : (i : Start) (t u : Option Expression) (s v : Statement) (n : ℕ) → R s v n → R (For i t u s) (For i t u v) n
  pub while : (e : Expression) (s t : Statement) (n : ℕ) → R s t n → R (While e s) (While e t) n
  pub do_while : (e : Expression) (s t : Statement) (n : ℕ) → R s t n → R (Do s e) (Do t e) n
  pub switch : (e : Expression) (cs ds : Cases) (n : ℕ) → C cs ds n → R (Switch e cs) (Switch e ds) n
  pub label : (l : ℕ) (s t : Statement) (n : ℕ) → R s t n → R (Label l s) (Label l t) n
  pub try_catch : (b c : Statements) (x : Option ℕ) (d e : Statements) (n k : ℕ) → L b c n → L d e k → R (TryCatch b x d) (TryCatch c x e) (n + k)
  pub try_finally : (b c f g : Statements) (n k : ℕ) → L b c n → L f g k → R (TryFinally b f) (TryFinally c g) (n + k)
  pub try_both : (b c : Statements) (x : Option ℕ) (d e f g : Statements) (n k j : ℕ) → L b c n → L d e k → L f g j → R (TryBoth b x d f) (TryBoth c x e g) (n + (k + j))
  pub empty_list : L none none 0
  pub more : (s t : Statement) (ss ts : Statements) (n k : ℕ) → R s t n → L ss ts k → L (some s ss) (some t ts) (n + k)
  pub more_let : (d : Declarator) (ds : List Declarator) (ss ts : Statements) (n : ℕ) → L ss ts n → L (Let d ds ss) (Let d ds ts) n
  pub empty_cases : C no_case no_case 0
  pub more_case : (t : Option Expression) (ss ts : Statements) (cs ds : Cases) (n k : ℕ) → L ss ts n → C cs ds k → C (case t ss cs) (case t ts ds) (n + k)

module _ (m : Model) (dropped : List ℕ) (R : Statement → Statement → ℕ → Type 0) (L : Statements → Statements → ℕ → Type 0) (C : Cases → Cases → ℕ → Type 0) (c : Closed R L C)
    (each : (p : Parent) (s : Statement) → R s (fold m dropped p s).result (fold m dropped p s).changes) where
  after : (p : Parent) (s t : Statement) (n : ℕ) → R s t n → R s (fold_after m dropped p n t).result (fold_after m dropped p n t).changes
  after p s t n q = c.chain s t (fold m dropped p t).result n (fold m dropped p t).changes q (each p t)

  mutual
    unfolding pass

    pub pass_law : (p : Parent) (s : Statement) → R s (pass m dropped p s).result (pass m dropped p s).changes
    pass_law p Empty = c.same Empty
    pass_law p Break = c.same Break
    pass_law p Continue = c.same Continue
    pass_law p (Block ss) = after p (Block ss) _ _ (c.block ss _ _ (pass_list_law block_parent ss))
    pass_law p (Expr e) = c.same (Expr e)
    pass_law p (Throw e) = c.same (Throw e)
    pass_law p (Var d ds) = c.same (Var d ds)
    pass_law p (If e s) = after p (If e s) _ _ (c.if_then e s _ _ (pass_law consequent_parent s))
    pass_law p (IfElse e s t) = after p (IfElse e s t) _ _ (c.if_else e s _ t _ _ _ (pass_law consequent_parent s) (pass_law other_parent t))
    pass_law p (For i t u s) = after p (For i t u s) _ _ (c.for i t u s _ _ (pass_law loop_parent s))
    pass_law p (While e s) = after p (While e s) _ _ (c.while e s _ _ (pass_law loop_parent s))
    pass_law p (Do s e) = after p (Do s e) _ _ (c.do_while e s _ _ (pass_law loop_parent s))
    pass_law p (Switch e cs) = after p (Switch e cs) _ _ (c.switch e cs _ _ (pass_cases_law cs))
    pass_law p (Label l s) = after p (Label l s) _ _ (c.label l s _ _ (pass_law label_parent s))
    pass_law p (BreakTo l) = c.same (BreakTo l)
    pass_law p (ContinueTo l) = c.same (ContinueTo l)
    pass_law p (Return e) = c.same (Return e)
    pass_law p (TryCatch b x d) = after p (TryCatch b x d) _ _ (c.try_catch b _ x d _ _ _ (pass_list_law block_parent b) (pass_list_law block_parent d))
    pass_law p (TryFinally b f) = after p (TryFinally b f) _ _ (c.try_finally b _ f _ _ _ (pass_list_law block_parent b) (pass_list_law block_parent f))
    pass_law p (TryBoth b x d f) = after p (TryBoth b x d f) _ _ (c.try_both b _ x d _ f _ _ _ _ (pass_list_law block_parent b) (pass_list_law block_parent d) (pass_list_law block_parent f))

    pub pass_list_law : (p : Parent) (ss : Statements) → L ss (pass_list m dropped p ss).result (pass_list m dropped p ss).changes
    pass_list_law p none = c.empty_list
    pass_list_law p (some s ss) = c.more s _ ss _ _ _ (pass_law p s) (pass_list_law p ss)
    pass_list_law p (Let d ds ss) = c.more_let d ds ss _ _ (pass_list_law p ss)

    pub pass_cases_law : (cs : Cases) → C cs (pass_cases m dropped cs).result (pass_cases m dropped cs).changes
    pass_cases_law no_case = c.empty_cases
    pass_cases_law (case t ss cs) = c.more_case t ss _ cs _ _ _ (pass_list_law other_parent ss) (pass_cases_law cs)

  -- a folded part in its place
  abbrev Has : Statement → Folded Statement → Type 0
  Has s f = R s f.result f.changes

  abbrev HasList : Statements → Folded Statements → Type 0
  HasList ss f = L ss f.result f.changes

  abbrev HasCases : Cases → Folded Cases → Type 0
  HasCases cs f = C cs f.result f.changes

  has_either : (b : Bool) (s : Statement) (f g : Folded Statement) → Has s f → Has s g → Has s (cond b f g)
  has_either true s f g p q = p
  has_either false s f g p q = q

  either_list : (b : Bool) (ss : Statements) (f g : Folded Statements) → HasList ss f → HasList ss g → HasList ss (cond b f g)
  either_list true ss f g p q = p
  either_list false ss f g p q = q

  either_cases : (b : Bool) (cs : Cases) (f g : Folded Cases) → HasCases cs f → HasCases cs g → HasCases cs (cond b f g)
  either_cases true cs f g p q = p
  either_cases false cs f g p q = q

  same_list : (ss : Statements) → L ss ss 0
  same_list none = c.empty_list
  same_list (some s ss) = c.more s s ss ss 0 0 (c.same s) (same_list ss)
  same_list (Let d ds ss) = c.more_let d ds ss ss 0 (same_list ss)

  same_cases : (cs : Cases) → C cs cs 0
  same_cases no_case = c.empty_cases
  same_cases (case t ss cs) = c.more_case t ss ss cs cs 0 0 (same_list ss) (same_cases cs)

  -- the changes of a part alone
  add_none : (s t : Statement) (n : ℕ) → R s t (n + 0) → R s t n
  add_none s t n q = let P : ℕ → Type 0 = λ k. R s t k in let e : n + 0 ≡ n = omega arith in subst P e q

  none_add : (s t : Statement) (n : ℕ) → R s t (0 + n) → R s t n
  none_add s t n q = let P : ℕ → Type 0 = λ k. R s t k in let e : 0 + n ≡ n = omega arith in subst P e q

  shift : (s t : Statement) (n : ℕ) → R s t (0 + (n + 0)) → R s t (0 + n)
  shift s t n q = let P : ℕ → Type 0 = λ k. R s t k in let e : 0 + (n + 0) ≡ 0 + n = omega arith in subst P e q

  shift_right : (s t : Statement) (n : ℕ) → R s t (0 + (0 + n)) → R s t (0 + n)
  shift_right s t n q = let P : ℕ → Type 0 = λ k. R s t k in let e : 0 + (0 + n) ≡ 0 + n = omega arith in subst P e q

  list_add_none : (s t : Statements) (n : ℕ) → L s t (n + 0) → L s t n
  list_add_none s t n q = let P : ℕ → Type 0 = λ k. L s t k in let e : n + 0 ≡ n = omega arith in subst P e q

  list_none_add : (s t : Statements) (n : ℕ) → L s t (0 + n) → L s t n
  list_none_add s t n q = let P : ℕ → Type 0 = λ k. L s t k in let e : 0 + n ≡ n = omega arith in subst P e q

  cases_add_none : (s t : Cases) (n : ℕ) → C s t (n + 0) → C s t n
  cases_add_none s t n q = let P : ℕ → Type 0 = λ k. C s t k in let e : n + 0 ≡ n = omega arith in subst P e q

  cases_none_add : (s t : Cases) (n : ℕ) → C s t (0 + n) → C s t n
  cases_none_add s t n q = let P : ℕ → Type 0 = λ k. C s t k in let e : 0 + n ≡ n = omega arith in subst P e q

  here : (n : ℕ) (p : Parent) (s : Statement) (f : Folded Statement) → Has s f → Has s (here_or n (fold m dropped p s) f)
  here n p s f q = has_either (eqb n 0) s (fold m dropped p s) f (each p s) q

  mutual
    unfolding step_inside

    step_inside_law : (n : ℕ) (s : Statement) → Has s (step_inside m dropped n s)
    step_inside_law n Empty = c.same Empty
    step_inside_law n Break = c.same Break
    step_inside_law n Continue = c.same Continue
    step_inside_law n (Block ss) = c.block ss _ _ (step_list_law n block_parent ss)
    step_inside_law n (Expr e) = c.same (Expr e)
    step_inside_law n (Throw e) = c.same (Throw e)
    step_inside_law n (Var d ds) = c.same (Var d ds)
    step_inside_law n (If e s) = c.if_then e s _ _ (here n consequent_parent s _ (step_inside_law (n - 1) s))
    step_inside_law n (IfElse e s t) = has_either (ltb n (size s)) (IfElse e s t) _ _ (add_none _ _ _ (c.if_else e s _ t t _ 0 (here n consequent_parent s _ (step_inside_law (n - 1) s)) (c.same t))) (none_add _ _ _ (c.if_else e s s t _ 0 _ (c.same s) (here (n - size s) other_parent t _ (step_inside_law (n - size s - 1) t))))
    step_inside_law n (For i t u s) = c.for i t u s _ _ (here n loop_parent s _ (step_inside_law (n - 1) s))
    step_inside_law n (While e s) = c.while e s _ _ (here n loop_parent s _ (step_inside_law (n - 1) s))
    step_inside_law n (Do s e) = c.do_while e s _ _ (here n loop_parent s _ (step_inside_law (n - 1) s))
    step_inside_law n (Switch e cs) = c.switch e cs _ _ (step_cases_law n cs)
    step_inside_law n (Label l s) = c.label l s _ _ (here n label_parent s _ (step_inside_law (n - 1) s))
    step_inside_law n (BreakTo l) = c.same (BreakTo l)
    step_inside_law n (ContinueTo l) = c.same (ContinueTo l)
    step_inside_law n (Return e) = c.same (Return e)
    step_inside_law n (TryCatch b x d) = has_either (ltb n (size_list b)) (TryCatch b x d) _ _ (add_none _ _ _ (c.try_catch b _ x d d _ 0 (step_list_law n block_parent b) (same_list d))) (none_add _ _ _ (c.try_catch b b x d _ 0 _ (same_list b) (step_list_law (n - size_list b) block_parent d)))
    step_inside_law n (TryFinally b f) = has_either (ltb n (size_list b)) (TryFinally b f) _ _ (add_none _ _ _ (c.try_finally b _ f f _ 0 (step_list_law n block_parent b) (same_list f))) (none_add _ _ _ (c.try_finally b b f _ 0 _ (same_list b) (step_list_law (n - size_list b) block_parent f)))
    step_inside_law n (TryBoth b x d f) =
        has_either (ltb n (size_list b)) (TryBoth b x d f) _ _ (add_none _ _ _ (c.try_both b _ x d d f f _ 0 0 (step_list_law n block_parent b) (same_list d) (same_list f)))
        (has_either (ltb (n - size_list b) (size_list d)) (TryBoth b x d f) _ _
        (none_add _ _ _ (shift (TryBoth b x d f) _ _ (c.try_both b b x d _ f f 0 _ 0 (same_list b) (step_list_law (n - size_list b) block_parent d) (same_list f))))
        (none_add _ _ _ (shift_right (TryBoth b x d f) _ _ (c.try_both b b x d d f _ 0 0 _ (same_list b) (same_list d) (step_list_law (n - size_list b - size_list d) block_parent f)))))

    pub step_list_law : (n : ℕ) (p : Parent) (ss : Statements) → HasList ss (step_list m dropped n p ss)
    step_list_law n p none = c.empty_list
    step_list_law n p (some s ss) = either_list (ltb n (size s)) (some s ss) _ _
        (list_add_none _ _ _ (c.more s _ ss ss _ 0 (here n p s _ (step_inside_law (n - 1) s)) (same_list ss)))
        (list_none_add _ _ _ (c.more s s ss _ 0 _ (c.same s) (step_list_law (n - size s) p ss)))
    step_list_law n p (Let d ds ss) = either_list (eqb n 0) (Let d ds ss) _ _ (same_list (Let d ds ss)) (c.more_let d ds ss _ _ (step_list_law (n - 1) p ss))

    step_cases_law : (n : ℕ) (cs : Cases) → HasCases cs (step_cases m dropped n cs)
    step_cases_law n no_case = c.empty_cases
    step_cases_law n (case t ss cs) = either_cases (ltb n (size_list ss)) (case t ss cs) _ _
        (cases_add_none _ _ _ (c.more_case t ss _ cs cs _ 0 (step_list_law n other_parent ss) (same_cases cs)))
        (cases_none_add _ _ _ (c.more_case t ss ss cs _ 0 _ (same_list ss) (step_cases_law (n - size_list ss) cs)))
