-- Product: how much time a packet's bytes add to the life of its flow.
use Rattle.std.specs.Prelude.{ℕ, ◌*◌}
use Rattle.std.specs.Int.{div_ceil}
use Rattle.tva_base.specs.declared.packet.Rights.{Rights}

-- the credit of a packet of that length, in nanoseconds: its part of the 1,024 n bytes is its
-- part of the t seconds, rounded up
unfoldable pub credit_of : ℕ → Rights → ℕ
credit_of bytes rights = div_ceil (bytes * rights.t * 1000000000) (1024 * rights.n)
