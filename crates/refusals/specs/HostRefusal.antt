-- The refusal of a host that cannot be made: the place is the number of rows, or the index of the row.
use Rattle.std.specs.Prelude.{ℕ}
use Rattle.refusals.specs.declared.refusal.Layer.TheVariants.{Host}
use Rattle.refusals.specs.declared.refusal.Refusal.{Refusal}
use Rattle.refusals.specs.declared.host.HostFault.{HostFault}
use Rattle.refusals.specs.declared.host.HostFault.TheVariants.{RowCount, Row}

abbrev pub host_refusal : ℕ
host_refusal = 13

abbrev pub host_refusal_of : HostFault → Refusal
host_refusal_of (RowCount count) = record { number = host_refusal; layer = Host; place = count }
host_refusal_of (Row index) = record { number = host_refusal; layer = Host; place = index }
