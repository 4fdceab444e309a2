-- Kit: the bucket of a flow, for the contracts of the functions that look it up.
use Rattle.std.specs.Prelude.{ℕ, ◌+◌, ◌*◌, ◌/◌, ◌%◌}
use Rattle.tva_base.specs.declared.packet.Flow.{Flow}
use Rattle.tva_flow.specs.declared.hash.HashKey.{HashKey}

-- bits 32 to 63 of the sum, for so many buckets
unfoldable pub bucket_of : ℕ → HashKey → Flow → ℕ
bucket_of buckets k f = (k.src * f.src.0 + k.dst * f.dst.0 + k.plus) / 4294967296 % 4294967296 % buckets
