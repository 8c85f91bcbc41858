-- CaseBlockEvaluation and CaseClauseIsSelected of ECMA-262 (Runtime Semantics of the switch statement), in the
-- standard's own order of steps, completion values aside: A is the list of clauses before the default, B that of
-- the clauses after it. `found` and `found_in_B` are the standard's, and what follows a step takes them.
use Rattle.std.specs.Prelude.{Bool, true, false, cond, List, [], ◌∷◌, Some, None}
use Rattle.words.specs.Tree.{Expression, Statements, Cases, no_case, case}
use Rattle.host.specs.Model.{Model, Value}
use Rattle.meaning.specs.Completion.{Evaluation, normal, end, ◌then◌}
use Rattle.meaning.specs.Run.{eval, run_list}

-- CaseClause : case Expression : StatementList
abbrev pub CaseClause : Type 0
CaseClause = Expression × Statements

-- CaseBlock : { CaseClauses } and { CaseClauses DefaultClause CaseClauses }, either list perhaps empty
pub data CaseBlock : Type 0 where
  without_default : List CaseClause → CaseBlock
  with_default : List CaseClause → Statements → List CaseClause → CaseBlock

-- the cases of a Switch as such a block has them written
abbrev pub clauses_then : List CaseClause → Cases → Cases
clauses_then [] rest = rest
clauses_then (c ∷ cs) rest = case (Some c.0) c.1 (clauses_then cs rest)

abbrev pub written : CaseBlock → Cases
written (without_default A) = clauses_then A no_case
written (with_default A d B) = clauses_then A (case None d (clauses_then B no_case))

module _ (m : Model) where
  -- CaseClauseIsSelected: the clause's expression is evaluated and compared with the input
  unfoldable pub case_clause_is_selected : CaseClause → Value → (Bool → Evaluation) → Evaluation
  case_clause_is_selected C input next = eval m C.0 (λ selector. next (m.strictly_equal input selector))

  -- For each clause C of the list: if found is false, set found to CaseClauseIsSelected(C, input); if found is
  -- true, evaluate C, and return if that is abrupt
  unfoldable pub each_clause : Value → List CaseClause → Bool → (Bool → Evaluation) → Evaluation
  each_clause input [] found next = next found
  each_clause input (C ∷ Cs) true next = run_list m C.1 then each_clause input Cs true next
  each_clause input (C ∷ Cs) false next =
      case_clause_is_selected C input (λ found. cond found (run_list m C.1 then each_clause input Cs true next) (each_clause input Cs false next))

  -- evaluate each clause C of the list, and return if that is abrupt
  unfoldable pub evaluate_each : List CaseClause → Evaluation
  evaluate_each [] = end normal
  evaluate_each (C ∷ Cs) = run_list m C.1 then evaluate_each Cs

  -- the default, and then another complete iteration of the second CaseClauses
  unfoldable pub default_and_after : Statements → List CaseClause → Evaluation
  default_and_after d B = run_list m d then evaluate_each B

  unfoldable pub case_block_evaluation : CaseBlock → Value → Evaluation
  case_block_evaluation (without_default A) input = each_clause input A false (λ found. end normal)
  case_block_evaluation (with_default A d B) input =
      each_clause input A false (λ found.
      cond found (default_and_after d B)
      (each_clause input B false (λ found_in_B. cond found_in_B (end normal) (default_and_after d B))))
