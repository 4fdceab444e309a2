-- A shim can carry each shape, where it could carry what happened before.
use Rattle.tva_sender.proofs.Common.{ℕ, Bool, true, false, cond, eqb, List, [], ◌∷◌, ◌++◌, Option, option_or, option_map, option_and_then, unwrap_or, IfSome, Address, AreRights, Shape, Grant, Contact, Prepared, Taken, Notice, Taking, taking_in, last_taking, unless_given_up, uses, first_nonce, grant_of, grant_held, under_grant, by_grant, IsNonce, IsShowable, IsShowableContact, AreShowable, of_peer, arith}
use Rattle.tva_sender.specs.declared.shape.Shape.TheVariants as shape

-- a shim could carry all that was prepared or taken
abbrev AreShowableContacts : ℕ → List Contact → Type 0
AreShowableContacts version [] = Unit {0}
AreShowableContacts version (c ∷ cs) = IsShowableContact version c × AreShowableContacts version cs

-- what happened with one peer
pub showable_peer : (version : ℕ) (a : Address) (h : List (Address × Contact)) → AreShowable version h → AreShowableContacts version (of_peer a h)
showable_peer version a [] k = tt
showable_peer version a (c ∷ cs) k = elim (eqb a.0 c.0.0) as (λ b. AreShowableContacts version (cond b (c.1 ∷ of_peer a cs) (of_peer a cs))) [ true ↦ (k.0, showable_peer version a cs k.1) | false ↦ showable_peer version a cs k.1 ]

either : {X : Type 0} (P : X → Type 0) (x y : Option X) → IfSome x P → IfSome y P → IfSome (option_or x y) P
either P x y k l = grind arith

first_fits : (version : ℕ) (cs : List Contact) → AreShowableContacts version cs → IfSome (first_nonce (uses cs)) IsNonce
first_fits version [] k = tt
first_fits version (Prepared time shape.Request length ∷ cs) k = first_fits version cs k.1
first_fits version (Prepared time (shape.NonceOnly nonce) length ∷ cs) k = k.0
first_fits version (Prepared time shape.Legacy length ∷ cs) k = first_fits version cs k.1
first_fits version (Taken rights caps ∷ cs) k = first_fits version cs k.1
first_fits version (Notice ∷ cs) k = first_fits version cs k.1
first_fits version _ k = k.0.nonce

abbrev IsShowableTaking : ℕ → Taking → Type 0
IsShowableTaking version t = AreRights version t.rights × AreShowableContacts version t.after

taking_fits : (version : ℕ) (before : List Contact) (c : Contact) (cs : List Contact) → AreShowableContacts version (c ∷ cs) → IfSome (taking_in before c cs) (IsShowableTaking version)
taking_fits version before c cs k = grind arith

last_fits : (version : ℕ) (before cs : List Contact) → AreShowableContacts version cs → IfSome (last_taking before cs) (IsShowableTaking version)
last_fits version before [] k = tt
last_fits version before (c ∷ cs) k = grind (arith, either, taking_fits, last_fits version (before ++ c ∷ []) cs k.1)

-- a grant that a shim can carry, whatever nonce is offered
abbrev pub IsShowableGrant : ℕ → Grant → Type 0
IsShowableGrant version g = AreRights version g.rights × IfSome g.nonce IsNonce

held_fits : (version : ℕ) (o : Option Taking) → IfSome o (IsShowableTaking version) → IfSome (option_map grant_of (option_and_then unless_given_up o)) (IsShowableGrant version)
held_fits version o k = grind (arith, first_fits)

pub showable_grant : (version : ℕ) (h : List Contact) → AreShowableContacts version h → IfSome (grant_held h) (IsShowableGrant version)
showable_grant version h k = held_fits version (last_taking [] h) (last_fits version [] h k)

choice : (version : ℕ) (b : Bool) (x y : Shape) → IsShowable version x → IsShowable version y → IsShowable version (cond b x y)
choice version b x y k l = grind arith

offered_fits : (o : Option ℕ) (offered : ℕ) → IfSome o IsNonce → IsNonce offered → IsNonce (unwrap_or o offered)
offered_fits o offered k l = grind arith

showable_under : (margin version : ℕ) (may_ask : Bool) (g : Grant) (now body offered : ℕ) → IsShowableGrant version g → IsNonce offered → IsShowable version (under_grant margin version may_ask g now body offered)
unfolding under_grant
showable_under margin version may_ask g now body offered k l = grind (arith, offered_fits, choice)

pub showable_shape : (margin version : ℕ) (may_ask : Bool) (o : Option Grant) (now body offered : ℕ) → IfSome o (IsShowableGrant version) → IsNonce offered → IsShowable version (by_grant margin version may_ask o now body offered)
showable_shape margin version may_ask o now body offered k l = grind (arith, choice, showable_under)
