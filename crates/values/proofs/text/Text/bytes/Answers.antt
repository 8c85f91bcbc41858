use Rattle.std.proofs.Common.{◌≡◌, ◌+◌, ◌*◌, ◌%◌, ◌^◌}
use Rattle.std.specs.Int.{w128, to_le_bytes}
use Rattle.values.proofs.ShownLemmas.{text_written}
use Rattle.values.proofs.text.Text.bytes.Goals as goal

pub returns : goal.returns
returns c =
    let written : c.to_le_bytes.result ≡ to_le_bytes w128 (c.from.result + c.from-2.result * 2 ^ 64 % 2 ^ 128) = c.to_le_bytes.ensures in
    rw (written, c.from.ensures, c.from-2.ensures) (text_written c.args.self.now)
