-- The rights that a sender takes are such as its shims can carry.
use Rattle.tva_sender.proofs.Common.{◌≡◌, ℕ, Bool, true, false, ◌||◌, eqb, List, sym, subst, arith, and_parts, eqb-true, eqb-false, Rights, AreRights, AreSomeRights, IsVersion, carries, Contact, takes}
use Rattle.tva_base.proofs.Widths.{carries-are}

-- by whether the version is 2
within : (second : Bool) (version : ℕ) → eqb version 2 ≡ second → IsVersion version → (rights : Rights) → AreSomeRights rights → (second || carries 1 rights) ≡ true → AreRights version rights
within true version is known rights some taken = subst (λ (v : ℕ). AreRights v rights) (sym (eqb-true version 2 is)) some
within false version is known rights some taken = grind (arith, eqb-false, carries-are)

pub taken_fits : (version : ℕ) → IsVersion version → (h : List Contact) (rights : Rights) → AreSomeRights rights → takes version h rights ≡ true → AreRights version rights
taken_fits version known h rights some taken = grind (arith, and_parts)
