-- The fold of a Block: what it makes keeps the rules and runs as before.
use Rattle.std.proofs.Common.{◌≡◌, ℕ, Bool, true, false, cond, sym, refl, ◌∙◌}
use Rattle.host.specs.Model.{Model}
use Rattle.meaning.specs.Run.{scoped, run}
use Rattle.words.specs.Tree.{Empty, Block}
use Rattle.words.specs.Tree.{Statements, none, some, Let}
use Rattle.checker.specs.Check.{Around}
use Rattle.checker.specs.Rules.{Keeps, inside}
use Rattle.meaning.specs.FoldLaws.{Sound}
use Rattle.meaning.proofs.Surroundings.{widen, wider_out, run_out}
use Rattle.meaning.specs.Fold.Folded.{unchanged, changed}
use Rattle.meaning.specs.Fold.Block.{Parent, empties, stays_inside, try_optimize_block}
use Rattle.meaning.proofs.Sequencing.{then_normal}

pub block_accepted : (count : ℕ) (a : Around) (p : Parent) (ss : Statements) → Keeps count a (Block ss) → Keeps count a (try_optimize_block p ss).result
block_accepted count a p none q = go (empties p)
  where
    go : (b : Bool) → Keeps count a (cond b (changed Empty) (unchanged (Block none))).result
    go true = q.0
    go false = q
block_accepted count a p (some s none) q = go (stays_inside p s)
  where
    go : (b : Bool) → Keeps count a (cond b (unchanged (Block (some s none))) (changed s)).result
    go true = q
    go false = widen count (inside a) a (wider_out a) s q.1.0
block_accepted count a p (some s (some t ss)) q = q
block_accepted count a p (some s (Let d ds ss)) q = q
block_accepted count a p (Let d ds ss) q = q

module _ (m : Model) where
  pub block_run : (count : ℕ) (a : Around) (p : Parent) (ss : Statements) → Sound a → Keeps count a (Block ss) →
      run m (try_optimize_block p ss).result a.label_set ≡ run m (Block ss) a.label_set
  unfolding run scoped
  block_run count a p none k q = go (empties p)
    where
      go : (b : Bool) → run m (cond b (changed Empty) (unchanged (Block none))).result a.label_set ≡ run m (Block none) a.label_set
      go true = refl
      go false = refl
  block_run count a p (some s none) k q = go (stays_inside p s)
    where
      go : (b : Bool) → run m (cond b (unchanged (Block (some s none))) (changed s)).result a.label_set ≡ run m (Block (some s none)) a.label_set
      go true = refl
      go false = run_out m count a s k q.1.0 ∙ sym (then_normal _)
  block_run count a p (some s (some t ss)) k q = refl
  block_run count a p (some s (Let d ds ss)) k q = refl
  block_run count a p (Let d ds ss) k q = refl
