-- A run never gains rounds.
use Rattle.std.proofs.Common.{ℕ, List, [], ◌∷◌, ◌++◌, Option}
use Rattle.host.specs.Model.{Model, by_var, by_let}
use Rattle.meaning.specs.Completion.{Ending, catch_by}
use Rattle.meaning.specs.Run.{let_names, let_names_cases, scoped, switch, catch_clause, run, run_list, run_cases}
use Rattle.words.specs.Tree.{Statement, Empty, Break, Continue, Block, Expr, Throw, Var, If, IfElse, For, While, Do, Switch, Label, BreakTo, ContinueTo, Return, TryCatch, TryFinally, TryBoth}
use Rattle.words.specs.Tree.{Statements, none, some, Let, Cases, no_case, case}
use Rattle.meaning.specs.Laws.{RoundsNeverGrow}
use Rattle.meaning.proofs.Within.{Within, Open, within_end, within_eval, within_declare, within_branch, within_for, within_while, within_do, within_breakable, within_cases, AllWithin, within_label, within_return, within_try, within_scoped, within_both, within_list}

-- no ending in particular
abbrev pub Any : Ending → Type 0
Any e = Unit {0}

pub any_open : Open Any
any_open = record { on_throw = λ v. tt; on_gone = tt; on_spent = tt }

module _ (m : Model) where
  mutual
    unfolding run switch

    pub bounded : (s : Statement) (ls : List ℕ) → Within Any (run m s ls)
    bounded Empty ls = within_end Any _ tt
    bounded Break ls = within_end Any _ tt
    bounded Continue ls = within_end Any _ tt
    bounded (Block ss) ls = within_scoped Any any_open m (let_names ss) _ (bounded_list ss)
    bounded (Expr e) ls = within_eval Any any_open m e _ (λ v. within_end Any _ tt)
    bounded (Throw e) ls = within_eval Any any_open m e _ (λ v. within_end Any _ tt)
    bounded (Var d ds) ls = within_declare Any any_open m by_var (d ∷ ds) tt
    bounded (If e s) ls = within_branch Any any_open m e _ _ (bounded s []) (within_end Any _ tt)
    bounded (IfElse e s t) ls = within_branch Any any_open m e _ _ (bounded s []) (bounded t [])
    bounded (For i t u s) ls = within_for Any any_open m Any i ls t u _ tt (bounded s []) (λ e _ _. tt)
    bounded (While e s) ls = within_while Any any_open m Any ls e _ tt (bounded s []) (λ e _ _. tt)
    bounded (Do s e) ls = within_do Any any_open m Any ls e _ tt (bounded s []) (λ e _ _. tt)
    bounded (Switch e cs) ls =
        within_eval Any any_open m e _ (λ v. within_breakable Any Any _ (within_cases Any any_open m v (let_names_cases cs) _ tt (bounded_cases cs)) (λ e _. tt))
    bounded (Label l s) ls = within_label Any Any l _ (bounded s (ls ++ l ∷ [])) (λ e _. tt)
    bounded (BreakTo l) ls = within_end Any _ tt
    bounded (ContinueTo l) ls = within_end Any _ tt
    bounded (Return e) ls = within_return Any any_open m e (λ v. tt)
    bounded (TryCatch b x c) ls = within_try Any any_open m _ x _ (within_scoped Any any_open m (let_names b) _ (bounded_list b)) (within_scoped Any any_open m (let_names c) _ (bounded_list c))
    bounded (TryFinally b f) ls = within_both Any _ _ (within_scoped Any any_open m (let_names b) _ (bounded_list b)) (within_scoped Any any_open m (let_names f) _ (bounded_list f))
    bounded (TryBoth b x c f) ls =
        within_both Any _ _ (within_try Any any_open m _ x _ (within_scoped Any any_open m (let_names b) _ (bounded_list b)) (within_scoped Any any_open m (let_names c) _ (bounded_list c)))
        (within_scoped Any any_open m (let_names f) _ (bounded_list f))

    pub bounded_list : (ss : Statements) → Within Any (run_list m ss)
    bounded_list none = within_end Any _ tt
    bounded_list (some s ss) = within_list Any any_open m _ _ (bounded s []) (bounded_list ss)
    bounded_list (Let d ds ss) = within_list Any any_open m _ _ (within_declare Any any_open m by_let (d ∷ ds) tt) (bounded_list ss)

    bounded_cases : (cs : Cases) → AllWithin Any any_open m (run_cases m cs)
    bounded_cases no_case = tt
    bounded_cases (case t ss cs) = (bounded_list ss, bounded_cases cs)

  -- a Body
  pub bounded_body : (ss : Statements) → Within Any (scoped m (let_names ss) (run_list m ss))
  bounded_body ss = within_scoped Any any_open m (let_names ss) _ (bounded_list ss)

  pub bounded_try : (b : Statements) (x : Option ℕ) (c : Statements) →
      Within Any (catch_by (scoped m (let_names b) (run_list m b)) (catch_clause m x (scoped m (let_names c) (run_list m c))))
  bounded_try b x c = within_try Any any_open m _ x _ (bounded_body b) (bounded_body c)

pub rounds_never_grow : RoundsNeverGrow
rounds_never_grow m s ls k w = (bounded m s ls k w).1
