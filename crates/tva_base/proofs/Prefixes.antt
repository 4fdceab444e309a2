-- Addresses that are zero past a prefix.
use Rattle.tva_base.proofs.Common.{◌≡◌, ℕ, ◌*◌, ◌%◌, mul-mod_left}

-- a multiple of a number leaves nothing over
pub multiple : (times size : ℕ) → times * size % size ≡ 0
multiple times size = mul-mod_left times size
