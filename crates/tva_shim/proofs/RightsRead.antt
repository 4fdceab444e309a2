-- Rights are read as their number is.
use Rattle.tva_shim.proofs.Common.{◌≡◌, ℕ, ◌^◌, List, Some, None, Rights, AreRights, rights_number, rights_size, number_fits, number_bytes, rights_bytes, Reads, IsBelow, rules}
use Rattle.tva_shim.proofs.Reading.{some_pair}

-- without a number there are no rights
pub rights_missing : (version : ℕ) {bytes : List ℕ} → Reads (IsBelow (256 ^ rights_size version)) (number_bytes version) bytes None → Reads (AreRights version) (rights_bytes version) bytes None
rights_missing version r = search (rules, number_fits)

-- nor where the number is that of none
pub rights_none : (version number : ℕ) {bytes rest : List ℕ} → Reads (IsBelow (256 ^ rights_size version)) (number_bytes version) bytes (Some (number, rest))
    → ((rights : Rights) → AreRights version rights → number ≡ rights_number version rights → ⊥) → Reads (AreRights version) (rights_bytes version) bytes None
rights_none version number r none = search (rules, some_pair, number_fits)

-- a number is that of the only rights which have it
pub rights_read : (version number : ℕ) (rights : Rights) {bytes rest : List ℕ} → Reads (IsBelow (256 ^ rights_size version)) (number_bytes version) bytes (Some (number, rest))
    → AreRights version rights → number ≡ rights_number version rights → ((other : Rights) → AreRights version other → number ≡ rights_number version other → rights ≡ other)
    → Reads (AreRights version) (rights_bytes version) bytes (Some (rights, rest))
rights_read version number rights {rest = rest} r are is one = search (rules, some_pair, number_fits)
