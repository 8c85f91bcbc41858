-- The run and the hoisted names beside ECMA-262's own definitions.
use Rattle.std.specs.Prelude.{◌≡◌, ℕ, List}
use Rattle.words.specs.Tree.{Expression, Statement, Statements, Switch, Cases}
use Rattle.host.specs.Model.{Model}
use Rattle.checker.specs.Rules.{OneDefault}
use Rattle.meaning.specs.Completion.{breakable}
use Rattle.meaning.specs.Run.{let_names_cases, eval, scoped, run}
use Rattle.meaning.specs.Fold.KeepVar.{keep_var, keep_list}
use Rattle.meaning.specs.VarDeclaredNames.{var_declared_names, names_of_list}
use Rattle.meaning.specs.CaseBlock.{CaseBlock, written, case_block_evaluation}

-- the names that KeepVar finds are VarDeclaredNames, of a statement and of a script
abbrev pub HoistedNames : Type 0
HoistedNames = ((s : Statement) → keep_var s ≡ var_declared_names s) × ((ss : Statements) → keep_list ss ≡ names_of_list ss)

-- the run of a Switch: its discriminant, and then CaseBlockEvaluation in a scope of the block's Lets; break is absorbed
abbrev pub SwitchEvaluation : Type 0
SwitchEvaluation = (m : Model) (e : Expression) (block : CaseBlock) (ls : List ℕ) →
    run m (Switch e (written block)) ls ≡ eval m e (λ v. breakable (scoped m (let_names_cases (written block)) (case_block_evaluation m block v)))

-- the cases of every Switch with at most one Default are such a block
abbrev pub CaseBlocks : Type 0
CaseBlocks = (cs : Cases) → OneDefault cs → (block : CaseBlock) × (written block ≡ cs)
