-- What was given and taken since, piece by piece.
use Rattle.tva.proofs.Common.{◌≡◌, inl, inr, ℕ, List, [], ◌∷◌, ◌++◌, All, refl, sym, ap, ◌∙◌, subst, append_assoc, append-nil, None, Some, IfSome, suc, IsSomeAnd, append_cancel_left, Option, HeldByName, Agrees, Holds, Load, AgreeSince, IsTold, WasTaken, WereAsked, WasAsked, IsRefusal, ReadFault}
use Rattle.std.proofs.lemmas.List.Elements.{All-append, All-from_recursion, recursion_from_All}
use Rattle.std.specs.Io.KnownBytes.{append_known}
use Rattle.tva_outside.proofs.Written.{append_known-append_known}
use Rattle.tva.specs.declared.status.Status as status
use Rattle.tva_base.proofs.Each.{each-left}
use Rattle.tva_audit.proofs.Worked.{All-right}

-- ## what was taken

append_known-nil : (known : Option (List ℕ)) → append_known known [] ≡ known
append_known-nil None = refl
append_known-nil (Some bytes) = ap Some (append-nil bytes)

pub taken_none : (before : Option (List ℕ)) (old : List ℕ) → WasTaken before before old old
taken_none before old = ([], sym (append-nil old), sym (append_known-nil before))

pub taken_of : (before now : Option (List ℕ)) (old new taken : List ℕ) → new ≡ old ++ taken → now ≡ append_known before taken → WasTaken before now old new
taken_of before now old new taken e f = (taken, e, f)

pub taken_both : (before mid now : Option (List ℕ)) (old between new : List ℕ) → WasTaken before mid old between → WasTaken mid now between new → WasTaken before now old new
taken_both before mid now old between new (first, e, f) (rest, g, h) = (
  first ++ rest,
  g ∙ ap (λ (xs : List ℕ). xs ++ rest) e ∙ append_assoc old first rest,
  h ∙ ap (λ (known : Option (List ℕ)). append_known known rest) f ∙ append_known-append_known before first rest,
)

-- ## what was asked for

pub asked_none : (old : List Load) (names : List (List ℕ)) → WereAsked old old names
asked_none old names = ([], 0, sym (append-nil old), refl)

pub asked_more : (old mid new : List Load) (name : List ℕ) (names : List (List ℕ)) → WasAsked old mid name → WereAsked mid new names → WereAsked old new (name ∷ names)
asked_more old mid new name names (given, e) (loads, n, f, same) = (
  record { name = name; given = given } ∷ loads,
  suc n,
  f ∙ ap (λ (ls : List Load). ls ++ loads) e ∙ append_assoc old (record { name = name; given = given } ∷ []) loads,
  ap (λ (ns : List (List ℕ)). name ∷ ns) same,
)

pub asked_one : (old new : List Load) (name : List ℕ) (names : List (List ℕ)) → WasAsked old new name → WereAsked old new (name ∷ names)
asked_one old new name names asked = asked_more old new new name names asked (asked_none new names)

-- ## files that agree

All-left : {X : Type 0} (P : X → Type 0) (xs ys : List X) → All P (xs ++ ys) → All P xs
All-left P xs ys h = All-from_recursion P xs (each-left P xs ys (recursion_from_All P (xs ++ ys) h))

-- files agree with a load
abbrev pub Fits : HeldByName → Load → Type 0
Fits files load = Holds files load.name load.given

pub holds_one : (files : HeldByName) (old new : List Load) (load : Load) → new ≡ old ++ load ∷ [] → AgreeSince old new files → Fits files load
holds_one files old new load is agree = (recursion_from_All (Fits files) (load ∷ []) (agree (load ∷ []) is)).0

pub agree_one : (files : HeldByName) (old new : List Load) (load : Load) → new ≡ old ++ load ∷ [] → Fits files load → AgreeSince old new files
agree_one files old new load is fits loads same =
    subst (λ (ls : List Load). Agrees files ls) (append_cancel_left old (load ∷ []) loads (sym is ∙ same))
    (All-from_recursion (Fits files) (load ∷ []) (fits, tt))

pub agree_none : (files : HeldByName) (old : List Load) → AgreeSince old old files
agree_none files old loads same =
    subst (λ (ls : List Load). Agrees files ls) (append_cancel_left old [] loads (append-nil old ∙ same)) (All-from_recursion (Fits files) [] tt)

module _ (old mid new : List Load) (names : List (List ℕ)) (name : List ℕ) (a : WasAsked old mid name) (b : WereAsked mid new names) where
  abbrev first : List Load
  first = record { name = name; given = a.0 } ∷ []

  whole : new ≡ old ++ (first ++ b.0)
  whole = b.2 ∙ ap (λ (ls : List Load). ls ++ b.0) a.1 ∙ append_assoc old first b.0

  pub agree_first : (files : HeldByName) → AgreeSince old new files → AgreeSince old mid files
  agree_first files all loads same =
      subst (λ (ls : List Load). Agrees files ls) (append_cancel_left old first loads (sym a.1 ∙ same))
      (All-left (Fits files) first b.0 (all (first ++ b.0) whole))

  pub agree_rest : (files : HeldByName) → AgreeSince old new files → AgreeSince mid new files
  agree_rest files all loads same =
      subst (λ (ls : List Load). Agrees files ls) (append_cancel_left mid b.0 loads (sym b.2 ∙ same))
      (All-right (Fits files) first b.0 (all (first ++ b.0) whole))

  pub agree_both : (files : HeldByName) → AgreeSince old mid files → AgreeSince mid new files → AgreeSince old new files
  agree_both files one more loads same =
      subst (λ (ls : List Load). Agrees files ls) (append_cancel_left old (first ++ b.0) loads (sym whole ∙ same))
      (All-append (Fits files) first b.0 (one first a.1) (more b.0 b.2))

  -- what is held agrees, first with one load, and then with the others
  pub held_both : (held : Option HeldByName) → IfSome held (AgreeSince old mid) → IfSome held (AgreeSince mid new) → IfSome held (AgreeSince old new)
  held_both None x y = tt
  held_both (Some files) x y = agree_both files x y

  some_both : (held : Option HeldByName) → IfSome held (AgreeSince old mid) → IsSomeAnd held (AgreeSince mid new) → IsSomeAnd held (AgreeSince old new)
  some_both None x y = y
  some_both (Some files) x y = agree_both files x y

  pub told_both : (held after : Option HeldByName) (r s : Type 0) (t : status.Status) → after ≡ held → (r → s) → IfSome held (AgreeSince old mid) → IsTold after mid new r t
      → IsTold held old new s t
  told_both held after r s t same later one rest =
      let more = subst (λ (h : Option HeldByName). IsTold h mid new r t) same rest in (
        λ apart. held_both held one (more.0 apart),
        λ fault. elim (more.1 fault) [ inl rose ↦ inl (later rose) | inr some ↦ inr (some_both held one some) ],
      )

-- what answers no fault of reading
pub told_found : (held : Option HeldByName) (old new : List Load) (r : Type 0) (t : status.Status) → (t ≡ ReadFault → ⊥) → IfSome held (AgreeSince old new) → IsTold held old new r t
told_found held old new r t apart agree = (λ _. agree, λ fault. absurd (apart fault))

-- what loads nothing
pub told_none : (held : Option HeldByName) (old : List Load) (r : Type 0) (t : status.Status) → (t ≡ ReadFault → ⊥) → IsTold held old old r t
told_none None old r t apart = told_found None old old r t apart tt
told_none (Some files) old r t apart = told_found (Some files) old old r t apart (agree_none files old)

-- a status that is no refusal is no fault of reading
pub no_fault : (t : status.Status) → (IsRefusal t → ⊥) → t ≡ ReadFault → ⊥
no_fault t apart is = apart (subst IsRefusal (sym is) tt)
