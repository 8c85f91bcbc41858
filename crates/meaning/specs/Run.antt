-- The run of a script: what each statement does, for a host, after the runtime semantics of ECMA-262 (Evaluation,
-- LabelledEvaluation, LoopEvaluation, BlockDeclarationInstantiation, CatchClauseEvaluation). A statement's label set is handed on by a Label alone.
-- Each action stands alone: where one never returns, the run is gone with the world as it was before that action.
use Rattle.std.specs.Prelude.{ℕ, cond, List, [], ◌∷◌, ◌++◌, Some, None, Option}
use Rattle.words.specs.Tree.{Expression, expression, Declarator, Name, NameInit, Start, no_start, start_expression, start_var, start_let}
use Rattle.words.specs.Tree.{Statement, Empty, Break, Continue, Block, Expr, Throw, Var, If, IfElse, For, While, Do, Switch, Label, BreakTo, ContinueTo, Return, TryCatch, TryFinally, TryBoth}
use Rattle.words.specs.Tree.{Statements, none, some, Let, Cases, no_case, case}
use Rattle.host.specs.Model.{Model, Value, Outcome, gives, throws, no_return, Declaration, by_var, by_let}
use Rattle.meaning.specs.Completion.{Ending, normal, break, continue, gone, break_to, continue_to, return, throw, Evaluation, end, ◌thereafter◌, ◌then◌, breakable, with_label, catch_by, unless_stopped, finally, loop}

-- The names that declarations bind (BoundNames), and those of a list's or the cases' own Lets (LexicallyDeclaredNames).

abbrev pub bound_name : Declarator → ℕ
bound_name (Name x) = x
bound_name (NameInit x e) = x

abbrev pub bound_names : List Declarator → List ℕ
bound_names [] = []
bound_names (d ∷ ds) = bound_name d ∷ bound_names ds

abbrev pub let_names : Statements → List ℕ
let_names none = []
let_names (some s ss) = let_names ss
let_names (Let d ds ss) = bound_names (d ∷ ds) ++ let_names ss

abbrev pub let_names_cases : Cases → List ℕ
let_names_cases no_case = []
let_names_cases (case t ss cs) = let_names ss ++ let_names_cases cs

-- an action's outcome, and what follows where it gives a result
unfoldable pub act : {A : Type 0} → Outcome A → (A → Evaluation) → Evaluation
act (gives a u) next rounds w = next a rounds u
act (throws v u) next rounds w = end (throw v) rounds u
act no_return next rounds w = end gone rounds w

module _ (m : Model) where
  -- part by part, each an action of its own, and on with the last one's value
  unfoldable pub eval_parts : ℕ → List ℕ → (Value → Evaluation) → Evaluation
  eval_parts x [] next rounds w = act (m.evaluate x w) next rounds w
  eval_parts x (y ∷ ys) next rounds w = act (m.evaluate x w) (λ _. eval_parts y ys next) rounds w

  unfoldable pub eval : Expression → (Value → Evaluation) → Evaluation
  eval (expression x xs) next = eval_parts x xs next

  -- nothing where there is no expression
  unfoldable pub eval_optional : Option Expression → Evaluation → Evaluation
  eval_optional None next = next
  eval_optional (Some e) next = eval e (λ _. next)

  unfoldable pub branch : Expression → Evaluation → Evaluation → Evaluation
  branch e consequent alternate = eval e (λ v. cond (m.truthy v) consequent alternate)

  -- a test that is absent is true
  unfoldable pub branch_optional : Option Expression → Evaluation → Evaluation → Evaluation
  branch_optional None consequent alternate = consequent
  branch_optional (Some e) consequent alternate = branch e consequent alternate

  unfoldable pub bind_name : Declaration → ℕ → Option Value → Evaluation → Evaluation
  bind_name by x v next rounds w = act (m.bind by x v w) (λ _. next) rounds w

  -- a Name in a Var does nothing, in a Let it binds none
  unfoldable pub declare_one : Declaration → Declarator → Evaluation → Evaluation
  declare_one by_var (Name x) next = next
  declare_one by_let (Name x) next = bind_name by_let x None next
  declare_one by_var (NameInit x e) next = eval e (λ v. bind_name by_var x (Some v) next)
  declare_one by_let (NameInit x e) next = eval e (λ v. bind_name by_let x (Some v) next)

  unfoldable pub declare : Declaration → List Declarator → Evaluation
  declare by [] = end normal
  declare by (d ∷ ds) = declare_one by d (declare by ds)

  unfoldable pub leaving : Ending → Evaluation
  leaving e rounds w = end e rounds (m.leave w)

  -- inside a scope of these names
  unfoldable pub scope : List ℕ → Evaluation → Evaluation
  scope names f rounds w = (f thereafter unless_stopped leaving) rounds (m.enter names w)

  -- a scope is entered only where there is a Let
  unfoldable pub scoped : List ℕ → Evaluation → Evaluation
  scoped [] f = f
  scoped (x ∷ xs) f = scope (x ∷ xs) f

  unfoldable pub renewed : Evaluation → Evaluation
  renewed next rounds w = next rounds (m.renew w)

  unfoldable pub while_loop : List ℕ → Expression → Evaluation → Evaluation
  while_loop ls e body = branch e (loop ls body (λ next. branch e next (end normal))) (end normal)

  unfoldable pub do_loop : List ℕ → Evaluation → Expression → Evaluation
  do_loop ls body e = loop ls body (λ next. branch e next (end normal))

  -- a For from its first test on (ForBodyEvaluation); `renewal` stands after each round that goes on, before the update
  unfoldable pub for_body : (Evaluation → Evaluation) → List ℕ → Option Expression → Option Expression → Evaluation → Evaluation
  for_body renewal ls test update body =
      branch_optional test (loop ls body (λ next. renewal (eval_optional update (branch_optional test next (end normal))))) (end normal)

  unfoldable pub for_loop : Start → List ℕ → Option Expression → Option Expression → Evaluation → Evaluation
  for_loop no_start ls test update body = for_body (λ next. next) ls test update body
  for_loop (start_expression e) ls test update body = eval e (λ _. for_body (λ next. next) ls test update body)
  for_loop (start_var d ds) ls test update body = declare by_var (d ∷ ds) then for_body (λ next. next) ls test update body
  for_loop (start_let d ds) ls test update body =
      scope (bound_names (d ∷ ds)) (declare by_let (d ∷ ds) then for_body renewed ls test update body)

  -- A Switch, over the tests of its cases and what their statements do.

  abbrev pub Clauses : Type 0
  Clauses = List (Option Expression × Evaluation)

  -- the statements of these cases, one after the other
  unfoldable pub fall_through : Clauses → Evaluation
  fall_through [] = end normal
  fall_through (c ∷ cs) = c.1 then fall_through cs

  unfoldable pub if_default : Option Expression → Evaluation → Evaluation → Evaluation
  if_default None here later = here
  if_default (Some t) here later = later

  -- from the Default on, or nothing where there is none
  unfoldable pub from_default : Clauses → Evaluation
  from_default [] = end normal
  from_default (c ∷ cs) = if_default c.0 (c.1 then fall_through cs) (from_default cs)

  unfoldable pub if_selected : Value → Option Expression → Evaluation → Evaluation → Evaluation
  if_selected v None here later = later
  if_selected v (Some t) here later = eval t (λ u. cond (m.strictly_equal v u) here later)

  -- the Cases are tested in written order, passing over the Default; the first equal one is where the run goes on
  unfoldable pub select_case : Value → Clauses → Evaluation → Evaluation
  select_case v [] otherwise = otherwise
  select_case v (c ∷ cs) otherwise = if_selected v c.0 (c.1 then fall_through cs) (select_case v cs otherwise)

  unfoldable pub switch : Expression → List ℕ → Clauses → Evaluation
  switch discriminant names cs = eval discriminant (λ v. breakable (scoped names (select_case v cs (from_default cs))))

  unfoldable pub return_value : Option Expression → Evaluation
  return_value None = end (return None)
  return_value (Some e) = eval e (λ v. end (return (Some v)))

  -- a catch that binds a name has a scope for it, around its own Lets
  unfoldable pub catch_clause : Option ℕ → Evaluation → Value → Evaluation
  catch_clause None f v = f
  catch_clause (Some x) f v = scope (x ∷ []) (bind_name by_let x (Some v) f)

  unfoldable mutual
    -- with the labels that are set on the statement
    pub run : Statement → List ℕ → Evaluation
    run Empty ls = end normal
    run Break ls = end break
    run Continue ls = end continue
    run (Block ss) ls = scoped (let_names ss) (run_list ss)
    run (Expr e) ls = eval e (λ _. end normal)
    run (Throw e) ls = eval e (λ v. end (throw v))
    run (Var d ds) ls = declare by_var (d ∷ ds)
    run (If e s) ls = branch e (run s []) (end normal)
    run (IfElse e s t) ls = branch e (run s []) (run t [])
    run (For i t u s) ls = for_loop i ls t u (run s [])
    run (While e s) ls = while_loop ls e (run s [])
    run (Do s e) ls = do_loop ls (run s []) e
    run (Switch e cs) ls = switch e (let_names_cases cs) (run_cases cs)
    run (Label l s) ls = with_label l (run s (ls ++ l ∷ []))
    run (BreakTo l) ls = end (break_to l)
    run (ContinueTo l) ls = end (continue_to l)
    run (Return e) ls = return_value e
    run (TryCatch b x c) ls = catch_by (scoped (let_names b) (run_list b)) (catch_clause x (scoped (let_names c) (run_list c)))
    run (TryFinally b f) ls = finally (scoped (let_names b) (run_list b)) (scoped (let_names f) (run_list f))
    run (TryBoth b x c f) ls =
        finally (catch_by (scoped (let_names b) (run_list b)) (catch_clause x (scoped (let_names c) (run_list c)))) (scoped (let_names f) (run_list f))

    pub run_list : Statements → Evaluation
    run_list none = end normal
    run_list (some s ss) = run s [] then run_list ss
    run_list (Let d ds ss) = declare by_let (d ∷ ds) then run_list ss

    pub run_cases : Cases → Clauses
    run_cases no_case = []
    run_cases (case t ss cs) = (t, run_list ss) ∷ run_cases cs

  -- a Body, so a script
  unfoldable pub run_body : Statements → Evaluation
  run_body ss = scoped (let_names ss) (run_list ss)
