-- Product: the versions of shims, and the rights that the shims of each can carry. Version 1 has 10 bits for the
-- units and 6 for the seconds, in 2 bytes; version 2 has 20 and 7, in 4 bytes.
use Rattle.std.specs.Prelude.{ℕ, ◌≤◌, ◌+◌, ◌*◌, ◌==◌, nat_le, ◌&&◌, Bool, if◌then◌else◌}
use Rattle.tva_base.specs.declared.packet.Rights.{Rights}

-- there are two versions
pub record IsVersion (version : ℕ) : Type 0 where
  pub from : 1 ≤ version
  pub to : version ≤ 2

-- the most units of 1,024 bytes, and the most seconds, in the rights of a version
abbrev pub units_max : ℕ → ℕ
units_max version = if version == 1 then 1023 else 1048575

abbrev pub seconds_max : ℕ → ℕ
seconds_max version = if version == 1 then 63 else 127

-- the bytes of rights in a shim
abbrev pub rights_size : ℕ → ℕ
rights_size version = if version == 1 then 2 else 4

-- rights as one number: the seconds are its lowest bits, and the units those above them
abbrev pub rights_number : ℕ → Rights → ℕ
rights_number version r = r.n * (seconds_max version + 1) + r.t

-- rights that a shim of that version can carry
pub record AreRights (version : ℕ) (r : Rights) : Type 0 where
  pub units : r.n ≤ units_max version
  pub seconds : r.t ≤ seconds_max version

-- rights that some shim can carry
abbrev pub AreSomeRights : Rights → Type 0
AreSomeRights r = AreRights 2 r

-- whether a shim of that version can carry the rights
abbrev pub carries : ℕ → Rights → Bool
carries version r = nat_le r.n (units_max version) && nat_le r.t (seconds_max version)

-- the least version whose shims can carry the rights
abbrev pub version_for : Rights → ℕ
version_for r = if carries 1 r then 1 else 2
