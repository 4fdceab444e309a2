-- Relations that hold place by place, over lists in parts.
use Rattle.tva_node.proofs.Common.{◌≡◌, ℕ, ◌+◌, ◌<◌, List, [], ◌∷◌, ◌++◌, length, get_or, take, drop, set, refl, sym, subst, ◌∙◌, ap, arith, append-nil, append_assoc, AllZip, drop_more, take_more, take_more_set, take-append-drop, drop-set-lt, BeginsWith, NodeState, Keeps}
pub use Rattle.tva_base.proofs.Each.{zip_same as AllZip-same}

pub AllZip-append : {X Y : Type 0} (R : X → Y → Type 0) (xs zs : List X) (ys ws : List Y) → AllZip R xs ys → AllZip R zs ws → AllZip R (xs ++ zs) (ys ++ ws)
AllZip-append R [] zs [] ws a b = b
AllZip-append R (x ∷ xs) zs (y ∷ ys) ws a b = (a.0, AllZip-append R xs zs ys ws a.1 b)
AllZip-append R _ zs _ ws a b = absurd a

-- what holds of two parts holds of the whole
pub all_zip_parts : {X Y : Type 0} (R : X → Y → Type 0) (whole front back : List X) (ys ws : List Y) → whole ≡ front ++ back → AllZip R front ys → AllZip R back ws → AllZip R whole (ys ++ ws)
all_zip_parts R whole front back ys ws e a b = rw e (AllZip-append R front back ys ws a b)

pub begins_same : {X : Type 0} (xs : List X) → BeginsWith xs xs
begins_same xs = ([], sym (append-nil xs))

pub begins_more : {X : Type 0} (xs ys zs : List X) → BeginsWith xs ys → BeginsWith ys zs → BeginsWith xs zs
begins_more {X = X} xs ys zs (a, e) (b, f) = (a ++ b, f ∙ (ap (λ (es : List X). es ++ b) e ∙ append_assoc xs a b))

-- a node that nothing was done to keeps all
pub keeps_same : (v : NodeState) → Keeps v v
keeps_same v = record { site = refl; horizon = refl; inbox = refl; events = begins_same v.events; sendings = begins_same v.sendings; keeps = refl; gone = refl }

-- what two calls one after the other leave
pub keeps_on : (a b c : NodeState) → Keeps a b → Keeps b c → Keeps a c
keeps_on a b c h k = record {
  site = k.site ∙ h.site;
  horizon = k.horizon ∙ h.horizon;
  inbox = k.inbox ∙ h.inbox;
  events = begins_more a.events b.events c.events h.events k.events;
  sendings = begins_more a.sendings b.sendings c.sendings h.sendings k.sendings;
  keeps = k.keeps ∙ h.keeps;
  gone = k.gone ∙ h.gone;
}

-- ## a list that is gone through

module _ {X : Type 0} (old xs : List X) (i : ℕ) (o w : X) (within : i < length xs) (long : length xs ≡ length old) (rest : drop i xs ≡ drop i old) (read : o ≡ get_or xs i o) where
  conses : get_or xs i o ∷ drop (i + 1) xs ≡ get_or old i o ∷ drop (i + 1) old
  conses = sym (drop_more xs i o within) ∙ (rest ∙ drop_more old i o (let k : i < length old = omega (arith, long) in k))

  same_cons : (x y : X) (us vs : List X) → x ∷ us ≡ y ∷ vs → (x ≡ y) × (us ≡ vs)
  same_cons x y us vs e = (cc, cc)

  was : o ≡ get_or old i o
  was = read ∙ (same_cons (get_or xs i o) (get_or old i o) (drop (i + 1) xs) (drop (i + 1) old) conses).0

  pub rest_more : drop (i + 1) (set xs i w) ≡ drop (i + 1) old
  rest_more = drop-set-lt (i + 1) xs i w (omega arith) ∙ (same_cons (get_or xs i o) (get_or old i o) (drop (i + 1) xs) (drop (i + 1) old) conses).1

  pub zip_more : (R : X → X → Type 0) → AllZip R (take i old) (take i xs) → R o w → AllZip R (take (i + 1) old) (take (i + 1) (set xs i w))
  zip_more R a r =
      let one : take (i + 1) old ≡ take i old ++ o ∷ [] = take_more old i o (let k : i < length old = omega (arith, long) in k) ∙ ap (λ (x : X). take i old ++ x ∷ []) (sym was) in
      let two : take (i + 1) (set xs i w) ≡ take i xs ++ w ∷ [] = take_more_set xs i w within in
      rw (one, two) (AllZip-append R (take i old) (o ∷ []) (take i xs) (w ∷ []) a (r, tt))

  -- the others stay as they were
  pub zip_whole : (R : X → X → Type 0) → ((x : X) → R x x) → AllZip R (take i old) (take i xs) → R o w → AllZip R old (set xs i w)
  zip_whole R same a r =
      let front : AllZip R (take (i + 1) old ++ drop (i + 1) old) (take (i + 1) (set xs i w) ++ drop (i + 1) (set xs i w)) =
      AllZip-append R (take (i + 1) old) (drop (i + 1) old) (take (i + 1) (set xs i w)) (drop (i + 1) (set xs i w)) (zip_more R a r)
      (subst (λ (vs : List X). AllZip R (drop (i + 1) old) vs) (sym rest_more) (AllZip-same R same (drop (i + 1) old))) in
      subst (λ (us : List X). AllZip R us (set xs i w)) (take-append-drop (i + 1) old)
      (subst (λ (vs : List X). AllZip R (take (i + 1) old ++ drop (i + 1) old) vs) (take-append-drop (i + 1) (set xs i w)) front)
