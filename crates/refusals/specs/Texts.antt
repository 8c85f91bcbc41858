-- What layers and faults are called in print.
use Rattle.std.specs.Prelude.{ℕ, List, codes, if◌then◌else◌, ◌==◌}
use Rattle.refusals.specs.declared.refusal.Layer.{Layer}
use Rattle.refusals.specs.declared.refusal.Layer.TheVariants.{Space, Reader, Tree, Host, Fold}
use Rattle.refusals.specs.declared.host.HostFault.{HostFault}
use Rattle.refusals.specs.declared.host.HostFault.TheVariants.{RowCount, Row}

abbrev pub layer_text : Layer → List ℕ
layer_text Space = codes "space"
layer_text Reader = codes "reader"
layer_text Tree = codes "tree"
layer_text Host = codes "host"
layer_text Fold = codes "fold"

-- rows 0 and 1 have a text of their own
abbrev pub host_fault_text : HostFault → List ℕ
host_fault_text (RowCount _) = codes "a host has 2 to 4,096 rows"
host_fault_text (Row i) =
    if i == 0 then codes "row 0 must be the literal 0"
    else (if i == 1 then codes "row 1 must be the literal 1"
    else codes "the row is of no kind that this host has, or what it looks at is not there, not earlier or of the wrong kind")
