-- KeepVar finds VarDeclaredNames, and a Switch runs as CaseBlockEvaluation has it.
use Rattle.std.proofs.Common.{◌≡◌, Bool, true, false, cond, List, [], ◌∷◌, ◌++◌, Some, None, sym, refl, ap, ◌∙◌, append_assoc}
use Rattle.host.specs.Model.{Model, Value}
use Rattle.meaning.specs.Completion.{normal, Evaluation, end, ◌then◌, breakable}
use Rattle.meaning.specs.Run.{let_names_cases, eval, scoped, fall_through, if_default, from_default, if_selected, select_case, switch, run, run_list, run_cases}
use Rattle.words.specs.Tree.{Expression, Start, no_start, start_expression, start_var, start_let}
use Rattle.words.specs.Tree.{Statement, Empty, Break, Continue, Block, Expr, Throw, Var, If, IfElse, For, While, Do, Switch, Label, BreakTo, ContinueTo, Return, TryCatch, TryFinally, TryBoth}
use Rattle.words.specs.Tree.{Statements, none, some, Let, Cases, no_case, case}
use Rattle.checker.specs.Rules.{NoDefault}
use Rattle.meaning.specs.Fold.KeepVar.{keep_start, keep_var, keep_list, keep_cases}
use Rattle.meaning.specs.VarDeclaredNames.{for_names, var_declared_names, names_of_list, names_of_clauses, names_before_default, names_of_default, names_after_default}
use Rattle.meaning.specs.CaseBlock.{CaseClause, CaseBlock, without_default, with_default, clauses_then, written, case_clause_is_selected, each_clause, evaluate_each, default_and_after, case_block_evaluation}
use Rattle.meaning.specs.Standard.{HoistedNames, SwitchEvaluation, CaseBlocks}

same_start : (i : Start) → keep_start i ≡ for_names i
same_start no_start = refl
same_start (start_expression e) = refl
same_start (start_var d ds) = refl
same_start (start_let d ds) = refl

mutual
  unfolding keep_var var_declared_names

  names_same : (s : Statement) → keep_var s ≡ var_declared_names s
  names_same Empty = refl
  names_same Break = refl
  names_same Continue = refl
  names_same (Block ss) = names_list ss
  names_same (Expr e) = refl
  names_same (Throw e) = refl
  names_same (Var d ds) = refl
  names_same (If e s) = names_same s
  names_same (IfElse e s t) = λ i. names_same s i ++ names_same t i
  names_same (For j t u s) = λ i. same_start j i ++ names_same s i
  names_same (While e s) = names_same s
  names_same (Do s e) = names_same s
  names_same (Switch e cs) = names_cases cs
  names_same (Label l s) = names_same s
  names_same (BreakTo l) = refl
  names_same (ContinueTo l) = refl
  names_same (Return e) = refl
  names_same (TryCatch b x c) = λ i. names_list b i ++ names_list c i
  names_same (TryFinally b f) = λ i. names_list b i ++ names_list f i
  names_same (TryBoth b x c f) = λ i. names_list b i ++ (names_list c i ++ names_list f i)

  names_list : (ss : Statements) → keep_list ss ≡ names_of_list ss
  names_list none = refl
  names_list (some s ss) = λ i. names_same s i ++ names_list ss i
  names_list (Let d ds ss) = names_list ss

  names_clauses : (cs : Cases) → keep_cases cs ≡ names_of_clauses cs
  names_clauses no_case = refl
  names_clauses (case t ss cs) = λ i. names_list ss i ++ names_clauses cs i

  names_cases : (cs : Cases) → keep_cases cs ≡ names_before_default cs ++ (names_of_default cs ++ names_after_default cs)
  names_cases no_case = refl
  names_cases (case None ss cs) = λ i. names_list ss i ++ names_clauses cs i
  names_cases (case (Some e) ss cs) = (λ i. names_list ss i ++ names_cases cs i) ∙ sym (append_assoc (names_of_list ss) (names_before_default cs) _)

pub hoisted_names : HoistedNames
hoisted_names = (names_same, names_list)

module _ (m : Model) where
  -- once found, the statements of the list and of what follows it
  found_all : (v : Value) (A : List CaseClause) (rest : Cases) (next : Bool → Evaluation) → fall_through m (run_cases m rest) ≡ next true →
      fall_through m (run_cases m (clauses_then A rest)) ≡ each_clause m v A true next
  unfolding fall_through run each_clause
  found_all v [] rest next p = p
  found_all v (C ∷ A) rest next p = ap (λ x. run_list m C.1 then x) (found_all v A rest next p)

  select_all : (v : Value) (A : List CaseClause) (rest : Cases) (otherwise : Evaluation) (next : Bool → Evaluation) → fall_through m (run_cases m rest) ≡ next true →
      select_case m v (run_cases m rest) otherwise ≡ next false → select_case m v (run_cases m (clauses_then A rest)) otherwise ≡ each_clause m v A false next
  unfolding select_case run each_clause if_selected case_clause_is_selected
  select_all v [] rest otherwise next p q = q
  select_all v (C ∷ A) rest otherwise next p q = λ i. eval m C.0 (λ u. cond (m.strictly_equal v u)
      (run_list m C.1 then found_all v A rest next p i) (select_all v A rest otherwise next p q i))

  default_past : (A : List CaseClause) (rest : Cases) → from_default m (run_cases m (clauses_then A rest)) ≡ from_default m (run_cases m rest)
  unfolding from_default if_default run
  default_past [] rest = refl
  default_past (C ∷ A) rest = default_past A rest

  each_evaluated : (B : List CaseClause) → fall_through m (run_cases m (clauses_then B no_case)) ≡ evaluate_each m B
  unfolding fall_through run evaluate_each
  each_evaluated [] = refl
  each_evaluated (C ∷ B) = ap (λ x. run_list m C.1 then x) (each_evaluated B)

  default_same : (d : Statements) (B : List CaseClause) → fall_through m (run_cases m (case None d (clauses_then B no_case))) ≡ default_and_after m d B
  unfolding fall_through run default_and_after
  default_same d B = ap (λ x. run_list m d then x) (each_evaluated B)

  block_same : (block : CaseBlock) (v : Value) →
      select_case m v (run_cases m (written block)) (from_default m (run_cases m (written block))) ≡ case_block_evaluation m block v
  unfolding case_block_evaluation select_case from_default if_selected if_default fall_through run
  block_same (without_default A) v = select_all v A no_case _ (λ found. end normal) refl (default_past A no_case)
  block_same (with_default A d B) v =
      select_all v A (case None d (clauses_then B no_case)) _ _ (default_same d B)
      (select_all v B no_case _ _ refl (default_past A (case None d (clauses_then B no_case)) ∙ default_same d B))

pub switch_evaluation : SwitchEvaluation
unfolding run switch
switch_evaluation m e block ls = λ i. eval m e (λ v. breakable (scoped m (let_names_cases (written block)) (block_same m block v i)))

-- a Switch's cases without a Default are a list of clauses
clauses_of : (cs : Cases) → NoDefault cs → (A : List CaseClause) × (clauses_then A no_case ≡ cs)
clauses_of no_case q = ([], refl)
clauses_of (case None ss cs) q = absurd q
clauses_of (case (Some e) ss cs) q = let r = clauses_of cs q in ((e, ss) ∷ r.0, ap (case (Some e) ss) r.1)

one_more : (e : Expression) (ss : Statements) (cs : Cases) → (block : CaseBlock) × (written block ≡ cs) → (block : CaseBlock) × (written block ≡ case (Some e) ss cs)
one_more e ss cs (without_default A, p) = (without_default ((e, ss) ∷ A), ap (case (Some e) ss) p)
one_more e ss cs (with_default A d B, p) = (with_default ((e, ss) ∷ A) d B, ap (case (Some e) ss) p)

pub case_blocks : CaseBlocks
case_blocks no_case q = (without_default [], refl)
case_blocks (case None ss cs) q = let r = clauses_of cs q in (with_default [] ss r.0, ap (case None ss) r.1)
case_blocks (case (Some e) ss cs) q = one_more e ss cs (case_blocks cs q)
