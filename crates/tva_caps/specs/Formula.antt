-- Product: how a router makes secrets, pre-capabilities and capabilities. A number in what is hashed stands as so
-- many bytes, the highest first, and the digest is SHA-256's (FIPS 180-4).
use Rattle.std.specs.Prelude.{ℕ, ◌+◌, ◌-◌, ◌/◌, ◌%◌, ◌^◌, List, [], ◌∷◌, ◌++◌, take, if◌then◌else◌}
use Rattle.byteorder.specs.Endian.{big_bytes, big_number}
use Rattle.sha2.specs.Sha256.{sha256}
use Rattle.tva_base.specs.declared.packet.Flow.{Flow}
use Rattle.tva_base.specs.declared.packet.Rights.{Rights}
use Rattle.tva_base.specs.Versions.{carries}

-- the epoch of a router second
abbrev pub epoch_of : ℕ → ℕ
epoch_of second = second / 128

-- the secret of an epoch
unfoldable pub secret_of : List ℕ → ℕ → List ℕ
secret_of master epoch = sha256 (master ++ big_bytes 8 epoch)

-- the time stamp of what is minted in a router second
abbrev pub stamp_at : ℕ → ℕ
stamp_at second = second % 256

-- the time stamp that a pre-capability or a capability shows: the first of its 8 bytes
abbrev pub stamp_of : ℕ → ℕ
stamp_of value = value / 2 ^ 56

-- the number whose 8 bytes are a stamp and the first 7 of a message's digest
unfoldable pub stamped : ℕ → List ℕ → ℕ
stamped stamp message = big_number 8 (stamp ∷ take 7 (sha256 message))

-- the pre-capability of a flow in a router second, under a secret
unfoldable pub precap_under : List ℕ → Flow → ℕ → ℕ
precap_under secret flow second =
    stamped (stamp_at second)
    (secret ++ big_bytes 4 flow.src.0 ++ big_bytes 4 flow.dst.0 ++ stamp_at second ∷ [])

-- the pre-capability that a router with this master mints for a flow in a router second
unfoldable pub precap_of : List ℕ → Flow → ℕ → ℕ
precap_of master flow second = precap_under (secret_of master (epoch_of second)) flow second

-- the units as they are hashed: in 2 bytes where a shim of version 1 can carry the rights, and else in
-- 4 behind a byte 2
abbrev pub hashed_units : Rights → List ℕ
hashed_units rights = if carries 1 rights then big_bytes 2 rights.n else 2 ∷ big_bytes 4 rights.n

-- the capability that a destination makes of a pre-capability, with the rights that it grants. It depends
-- on the rights alone, whichever version of shim asks for it or shows it
unfoldable pub capability_of : ℕ → Rights → ℕ
capability_of precap rights =
    stamped (stamp_of precap) (big_bytes 8 precap ++ hashed_units rights ++ rights.t ∷ [])

-- the age of a shown value in a router second: the seconds since the last one with its stamp
unfoldable pub age_of : ℕ → ℕ → ℕ
age_of second shown = (second + 256 - stamp_of shown) % 256
