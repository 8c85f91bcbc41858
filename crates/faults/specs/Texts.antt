-- What the faults of a call are called in print.
use Rattle.std.specs.Prelude.{ℕ, List, codes}
use Rattle.faults.specs.declared.tree.ReaderFault.{ReaderFault}
use Rattle.faults.specs.declared.tree.ReaderFault.TheVariants.{WordDue, WordsLeft}
use Rattle.faults.specs.declared.tree.TreeFault.{TreeFault}
use Rattle.faults.specs.declared.tree.TreeFault.TheVariants as tree
use Rattle.faults.specs.declared.call.CallFault.{CallFault}
use Rattle.faults.specs.declared.call.CallFault.TheVariants as call

abbrev pub reader_fault_text : ReaderFault → List ℕ
reader_fault_text (WordDue _) = codes "a word is due here, and none is left"
reader_fault_text (WordsLeft _) = codes "the script has ended, and words are left over"

abbrev pub tree_fault_text : TreeFault → List ℕ
tree_fault_text (tree.Reader f) = reader_fault_text f
tree_fault_text (tree.Format _) = codes "a word of this kind and number may not stand here"
tree_fault_text (tree.Depth _) = codes "more than 100 statements are around this one"
tree_fault_text (tree.Expression _) = codes "the host has no such expression"
tree_fault_text (tree.Jump _) = codes "the jump has no target around it, or the label stands inside itself"

abbrev pub call_fault_text : CallFault → List ℕ
call_fault_text (call.Used _) = codes "the used length is 0 or above the space"
call_fault_text (call.TooLong _) = codes "a script has at most 16,000 words"
call_fault_text (call.WorkingWords _) = codes "there must be four working words for each word used"
call_fault_text (call.Labels _) = codes "at most 16 labels can be dropped"
call_fault_text (call.Tree f) = tree_fault_text f
call_fault_text (call.NoSuchPlace _) = codes "the script has no statement at this place"
call_fault_text (call.NoAlternate _) = codes "a stub is due for an alternate that is not there"
