-- Runs and folds computed by the checker, on the host of specs/Witness: expressions 0 to 3 are literals, 4, 5 and 6 (f, g
-- and h) send their number and give the next answer, 7 and 8 send theirs and give 2 and 3, and 9 sends its and throws.
use Rattle.std.specs.Prelude.{◌≡◌, ℕ, List, [], ◌∷◌, Some, None}
use Rattle.words.specs.Tree.{Expression, expression, Name, NameInit, start_expression, start_var, start_let}
use Rattle.words.specs.Tree.{Statement, Empty, Break, Continue, Block, Expr, Throw, Var, IfElse, For, While, Do, Switch, Label, BreakTo, ContinueTo, Return, TryCatch, TryFinally, TryBoth}
use Rattle.words.specs.Tree.{Statements, none, some, Let, no_case, case}
use Rattle.host.specs.Model.{World}
use Rattle.meaning.specs.Completion.{Ending, normal, gone, spent, throw, Completion}
use Rattle.meaning.specs.Run.{run_body}
use Rattle.meaning.specs.Fold.Folded.{Folded, folded}
use Rattle.meaning.specs.Fold.Block.{block_parent}
use Rattle.meaning.specs.Pass.{fold}
use Rattle.meaning.specs.Witness.{witness}

-- one expression, and a Sequence of two
abbrev pub e1 : ℕ → Expression
e1 x = expression x []

abbrev pub e2 : ℕ → ℕ → Expression
e2 x y = expression x (y ∷ [])

abbrev pub only : Statement → Statements
only s = some s none

-- answers left, things sent and scopes
abbrev pub world : List ℕ → List ℕ → List (List ℕ) → World
world answers sent scopes = record { answers = answers; sent = sent; scopes = scopes }

-- a script of one statement, from these answers and rounds
abbrev pub run_one : Statement → List ℕ → ℕ → Completion
run_one s answers rounds = run_body witness (only s) rounds (world answers [] [])

abbrev pub ends : Ending → World → ℕ → Completion
ends e w rounds = record { ending = e; world = w; rounds = rounds }

pub record ExampleRuns : Type 0 where
  -- while (f) g, with the answers 1, 5, 0: one round, and the test once more
  pub while_round : run_one (While (e1 4) (Expr (e1 5))) (1 ∷ 5 ∷ 0 ∷ []) 3 ≡ ends normal (world [] (4 ∷ 5 ∷ 4 ∷ []) []) 2
  -- while (1) ; with two rounds left: spent
  pub while_spent : run_one (While (e1 1) Empty) [] 2 ≡ ends spent (world [] [] []) 0
  -- do continue; while (f): continue goes on to the test
  pub do_continue : run_one (Do Continue (e1 4)) (1 ∷ 0 ∷ []) 5 ≡ ends normal (world [] (4 ∷ 4 ∷ []) []) 3
  -- for (let x = f; g; h) ; one round: bound, tested, renewed, updated, tested, and the scope is left
  pub for_let : run_one (For (start_let (NameInit 50 (e1 4)) []) (Some (e1 5)) (Some (e1 6)) Empty) (7 ∷ 1 ∷ 8 ∷ 0 ∷ []) 4
      ≡ ends normal (world [] (4 ∷ 50 ∷ 5 ∷ 77 ∷ 6 ∷ 5 ∷ []) []) 3
  -- try { return 2 } finally { throw 3 }: the finalizer's ending stands
  pub finalizer_overrides : run_one (TryFinally (only (Return (Some (e1 2)))) (only (Throw (e1 3)))) [] 1 ≡ ends (throw (3 ∷ [])) (world [] [] []) 1
  -- try { throws } catch (x) { let y; f }: the name's scope and that of the Let, both left
  pub catch_scopes : run_one (TryCatch (only (Expr (e1 9))) (Some 60) (Let (Name 61) [] (only (Expr (e1 4))))) (1 ∷ []) 1
      ≡ ends normal (world [] (9 ∷ 60 ∷ 61 ∷ 4 ∷ []) []) 1
  -- L: try { break L } finally { f }: the finalizer runs on the way out
  pub label_through_try : run_one (Label 1 (TryFinally (only (BreakTo 1)) (only (Expr (e1 4))))) (5 ∷ []) 1 ≡ ends normal (world [] (4 ∷ []) []) 1
  -- { let x; f } with no answer: gone inside the scope, which is not left
  pub gone_in_scope : run_one (Block (Let (Name 70) [] (only (Expr (e1 4))))) [] 1 ≡ ends gone (world [] (70 ∷ []) ((70 ∷ []) ∷ [])) 1
  -- try { while (1) ; } catch { f } finally { g }: spent passes straight out
  pub spent_in_try : run_one (TryBoth (only (While (e1 1) Empty)) None (only (Expr (e1 4))) (only (Expr (e1 5)))) (1 ∷ 1 ∷ []) 1 ≡ ends spent (world (1 ∷ 1 ∷ []) [] []) 0
  -- (f, g) with one answer: f is sent before g does not return
  pub gone_in_sequence : run_one (Expr (e2 4 5)) (1 ∷ []) 1 ≡ ends gone (world [] (4 ∷ []) []) 1
  -- L: while (1) { while (1) continue L }: each inner round is left for the outer loop
  pub continue_outer : run_one (Label 1 (While (e1 1) (While (e1 1) (ContinueTo 1)))) [] 3 ≡ ends spent (world [] [] []) 0
  -- switch (f) { case 2: g; default: h; case 3: g } with answers 3, 5: the Default is passed over while testing
  pub switch_default : run_one (Switch (e1 4) (case (Some (e1 2)) (only (Expr (e1 5))) (case None (only (Expr (e1 6))) (case (Some (e1 3)) (only (Expr (e1 5))) no_case)))) (3 ∷ 5 ∷ []) 1
      ≡ ends normal (world [] (4 ∷ 5 ∷ []) []) 1
  -- the same with answers 9, 5, 6: no test is equal, so the run goes on from the Default
  pub switch_falls : run_one (Switch (e1 4) (case (Some (e1 2)) (only (Expr (e1 5))) (case None (only (Expr (e1 6))) (case (Some (e1 3)) (only (Expr (e1 5))) no_case)))) (9 ∷ 5 ∷ 6 ∷ []) 1
      ≡ ends normal (world [] (4 ∷ 6 ∷ 5 ∷ []) []) 1

-- a statement of a Body
abbrev pub fold_one : Statement → Folded Statement
fold_one s = fold witness [] block_parent s

abbrev pub f : Statement
f = Expr (e1 4)

abbrev pub g : Statement
g = Expr (e1 5)

abbrev pub h : Statement
h = Expr (e1 6)

pub record ExampleFolds : Type 0 where
  -- switch (1) { case 2: f; case 1: g; break; case 3: var z }  →  switch (1) { case 1: g; break; var z }
  pub matched_case : fold_one (Switch (e1 1) (case (Some (e1 2)) (only f) (case (Some (e1 1)) (some g (only Break)) (case (Some (e1 3)) (only (Var (Name 80) [])) no_case))))
      ≡ folded (Switch (e1 1) (case (Some (e1 1)) (some g (some Break (only (Var (Name 80) [])))) no_case)) 1
  -- switch (1) { case (f, 2): g; default: h }  →  switch (1) { default: (f, 2); h }
  pub default_case : fold_one (Switch (e1 1) (case (Some (e2 4 2)) (only g) (case None (only h) no_case)))
      ≡ folded (Switch (e1 1) (case None (some (Expr (e2 4 2)) (only h)) no_case)) 1
  -- switch (1) { case 2: f; case (g, 3): h }  →  switch (1) { case 2, g, 3: }
  pub missing_case : fold_one (Switch (e1 1) (case (Some (e1 2)) (only f) (case (Some (e2 5 3)) (only h) no_case)))
      ≡ folded (Switch (e1 1) (case (Some (expression 2 (5 ∷ 3 ∷ []))) none no_case)) 1
  -- switch (1) { case 2: f; case 3: g }  →  1;
  pub switch_gone : fold_one (Switch (e1 1) (case (Some (e1 2)) (only f) (case (Some (e1 3)) (only g) no_case))) ≡ folded (Expr (e1 1)) 3
  -- if (0) var x = f; else g  →  if (0) var x; else g, and with x granted  →  g
  pub if_stub : fold_one (IfElse (e1 0) (Var (NameInit 80 (e1 4)) []) g) ≡ folded (IfElse (e1 0) (Var (Name 80) []) g) 1
  pub if_granted : fold_one (IfElse (e1 0) (Var (NameInit 100 (e1 4)) []) g) ≡ folded g 1
  -- for (var i = f; 0; g) var y  →  var i = f, y; the update has effects and goes with the For
  pub for_var : fold_one (For (start_var (NameInit 80 (e1 4)) []) (Some (e1 0)) (Some (e1 5)) (Var (Name 81) [])) ≡ folded (Var (NameInit 80 (e1 4)) (Name 81 ∷ [])) 1
  -- for (let i = f; 0;) var y  →  { let i = f; var y }
  pub for_let : fold_one (For (start_let (NameInit 80 (e1 4)) []) (Some (e1 0)) None (Var (Name 81) [])) ≡ folded (Block (Let (NameInit 80 (e1 4)) [] (only (Var (Name 81) [])))) 1
  -- L: { break L; var z = f }  →  var z
  pub label_breaks : fold_one (Label 1 (Block (some (BreakTo 1) (only (Var (NameInit 80 (e1 4)) []))))) ≡ folded (Var (Name 80) []) 1
  -- try {} catch { f; var z } finally {}  →  try {} catch { var z }
  pub try_cleared : fold_one (TryBoth none None (some f (only (Var (Name 80) []))) none) ≡ folded (TryCatch none None (only (Var (Name 80) []))) 2
  -- for (1; 0; 1) f  →  ;
  pub for_parts_lem : fold_one (For (start_expression (e1 1)) (Some (e1 0)) (Some (e1 1)) f) ≡ folded Empty 3
  -- if (0) f; else ;  →  ;
  pub if_else_empty : fold_one (IfElse (e1 0) f Empty) ≡ folded Empty 2
