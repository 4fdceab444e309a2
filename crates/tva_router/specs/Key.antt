-- Crate: the key by which a router's cache finds its flows.
use Rattle.std.specs.Prelude.{ℕ, List, ◌++◌, take, drop, codes}
use Rattle.byteorder.specs.Endian.{big_number}
use Rattle.sha2.specs.Sha256.{sha256}
use Rattle.tva_flow.specs.declared.hash.HashKey.{HashKey}

-- three numbers of 8 bytes each, the highest first
abbrev pub key_of : List ℕ → HashKey
key_of bytes =
    record { src = big_number 8 (take 8 bytes); dst = big_number 8 (take 8 (drop 8 bytes)); plus = big_number 8 (take 8 (drop 16 bytes)) }

-- the key of a router with this master, from the digest of the master and a word
unfoldable pub flow_key : List ℕ → HashKey
flow_key master = key_of (sha256 (master ++ codes "flows"))
