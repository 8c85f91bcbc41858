-- try_fold_for: an initial expression and an update without effects go, and so does a test that is true; with a
-- test that is false the For is replaced by its declaration and a stub of its body. A test with effects stays.
--   before: `for (var i = f; 0; g) var y`   after: `var i = f, y`
--   before: `for (let i = f; 0;) var y`   after: `{ let i = f; var y }`
use Rattle.std.specs.Prelude.{◌+◌, Bool, true, false, cond, ◌++◌, map, Some, None, Option}
use Rattle.words.specs.Tree.{Expression, Name, Start, no_start, start_expression, start_var, start_let}
use Rattle.words.specs.Tree.{Statement, Block, Var, For}
use Rattle.words.specs.Tree.{Let}
use Rattle.host.specs.Model.{Model}
use Rattle.host.specs.Sequence.{parts_of, truth_of, effects_of}
use Rattle.meaning.specs.Fold.Folded.{Folded, unchanged, changed, plus_changes}
use Rattle.meaning.specs.Fold.KeepVar.{keep_var, stub_or_empty, stub_list}

module _ (m : Model) where
  abbrev pub drop_start : Start → Folded Start
  drop_start no_start = unchanged no_start
  drop_start (start_expression e) = cond (effects_of m (parts_of e)) (unchanged (start_expression e)) (changed no_start)
  drop_start (start_var d ds) = unchanged (start_var d ds)
  drop_start (start_let d ds) = unchanged (start_let d ds)

  abbrev pub drop_update : Option Expression → Folded (Option Expression)
  drop_update None = unchanged None
  drop_update (Some e) = cond (effects_of m (parts_of e)) (unchanged (Some e)) (changed None)

  -- the test is false at once: what is left of the For
  abbrev pub never_entered : Start → Expression → Option Expression → Statement → Folded Statement
  never_entered no_start t u s = changed (stub_or_empty (keep_var s))
  never_entered (start_expression e) t u s = unchanged (For (start_expression e) (Some t) u s)
  never_entered (start_var d ds) t u s = changed (Var d (ds ++ map Name (keep_var s)))
  never_entered (start_let d ds) t u s = changed (Block (Let d ds (stub_list (keep_var s))))

  abbrev pub fold_for_truth : Option Bool → Start → Expression → Option Expression → Statement → Folded Statement
  fold_for_truth None i t u s = unchanged (For i (Some t) u s)
  fold_for_truth (Some true) i t u s = changed (For i None u s)
  fold_for_truth (Some false) i t u s = never_entered i t u s

  abbrev pub fold_for_test : Start → Option Expression → Option Expression → Statement → Folded Statement
  fold_for_test i None u s = unchanged (For i None u s)
  fold_for_test i (Some t) u s = cond (effects_of m (parts_of t)) (unchanged (For i (Some t) u s)) (fold_for_truth (truth_of m (parts_of t)) i t u s)

  abbrev pub try_fold_for : Start → Option Expression → Option Expression → Statement → Folded Statement
  try_fold_for i t u s =
      plus_changes ((drop_start i).changes + (drop_update u).changes) (fold_for_test (drop_start i).result t (drop_update u).result s)
