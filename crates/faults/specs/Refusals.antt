-- The table of refusals: for each fault of a call its number, the layer that found it, and its place.
use Rattle.std.specs.Prelude.{ℕ}
use Rattle.refusals.specs.declared.refusal.Layer.{Layer as PartOfProgram}
use Rattle.refusals.specs.declared.refusal.Layer.TheVariants.{Space, Reader, Tree, Host, Fold}
use Rattle.refusals.specs.declared.refusal.Refusal.{Refusal}
use Rattle.faults.specs.declared.tree.ReaderFault.TheVariants.{WordDue, WordsLeft}
use Rattle.faults.specs.declared.tree.TreeFault.TheVariants as tree
use Rattle.faults.specs.declared.call.CallFault.{CallFault}
use Rattle.faults.specs.declared.call.CallFault.TheVariants as call

abbrev pub number_of : CallFault → ℕ
number_of (call.Used n) = 1
number_of (call.TooLong n) = 2
number_of (call.WorkingWords n) = 3
number_of (call.Labels n) = 4
number_of (call.Tree (tree.Reader (WordDue n))) = 5
number_of (call.Tree (tree.Reader (WordsLeft n))) = 10
number_of (call.Tree (tree.Format n)) = 6
number_of (call.Tree (tree.Depth n)) = 7
number_of (call.Tree (tree.Expression n)) = 8
number_of (call.Tree (tree.Jump n)) = 9
number_of (call.NoSuchPlace n) = 11
number_of (call.NoAlternate n) = 12

abbrev pub layer_of : CallFault → PartOfProgram
layer_of (call.Used n) = Space
layer_of (call.TooLong n) = Space
layer_of (call.WorkingWords n) = Space
layer_of (call.Labels n) = Space
layer_of (call.Tree (tree.Reader (WordDue n))) = Reader
layer_of (call.Tree (tree.Reader (WordsLeft n))) = Reader
layer_of (call.Tree (tree.Format n)) = Tree
layer_of (call.Tree (tree.Depth n)) = Tree
layer_of (call.Tree (tree.Expression n)) = Host
layer_of (call.Tree (tree.Jump n)) = Tree
layer_of (call.NoSuchPlace n) = Fold
layer_of (call.NoAlternate n) = Fold

-- the used length, the working words there are, the labels there are, the word, or the statement's place
abbrev pub place_of : CallFault → ℕ
place_of (call.Used n) = n
place_of (call.TooLong n) = n
place_of (call.WorkingWords n) = n
place_of (call.Labels n) = n
place_of (call.Tree (tree.Reader (WordDue n))) = n
place_of (call.Tree (tree.Reader (WordsLeft n))) = n
place_of (call.Tree (tree.Format n)) = n
place_of (call.Tree (tree.Depth n)) = n
place_of (call.Tree (tree.Expression n)) = n
place_of (call.Tree (tree.Jump n)) = n
place_of (call.NoSuchPlace n) = n
place_of (call.NoAlternate n) = n

abbrev pub refusal_of : CallFault → Refusal
refusal_of f = record { number = number_of f; layer = layer_of f; place = place_of f }
