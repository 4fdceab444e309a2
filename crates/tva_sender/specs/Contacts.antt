-- Product: what happened with one peer: the asks, and the grants that were taken.
use Rattle.std.specs.Prelude.{ℕ, Bool, true, false, not, nat_lt, ◌==◌, ◌&&◌, ◌||◌, if◌then◌else◌, List, [], ◌∷◌, ◌++◌, sum_by, count_by, Option, Some, None, unwrap_or}
use Rattle.std.specs.List.{list_any, flat_map}
use Rattle.std.specs.Option.{option_or, option_map, option_map_or, option_and_then}
use Rattle.tva_base.specs.{declared.packet.Rights.Rights, declared.packet.Time.Time, Credit.credit_of, Lives.latest_end}
use Rattle.tva_base.specs.Versions.{carries}
use Rattle.tva_sender.specs.declared.{shape.Shape.Shape, grant.Grant.Grant}
use Rattle.tva_sender.specs.declared.shape.Shape.TheVariants as shape

-- a packet was prepared for the peer at a time, in a shape and of a length; a grant of the peer
-- was taken, with its rights and capabilities; or a notice came from the peer
pub data Contact : Type 0 where
  Prepared : ℕ → Shape → ℕ → Contact
  Taken : Rights → List ℕ → Contact
  Notice : Contact

abbrev pub is_taking : Contact → Bool
is_taking (Taken rights caps) = true
is_taking _ = false

abbrev pub is_notice : Contact → Bool
is_notice Notice = true
is_notice _ = false

-- a request or a renewal asks
abbrev pub asks : Shape → Bool
asks shape.Request = true
asks (shape.Renewal held) = true
asks _ = false

-- an ask: its time, and what happened after it
pub record Ask : Type 0 where
  pub time : ℕ
  pub after : List Contact

abbrev pub ask_in : Contact → List Contact → Option Ask
ask_in (Prepared time shape length) after = if asks shape then Some (record { time = time; after = after }) else None
ask_in _ after = None

abbrev pub last_ask : List Contact → Option Ask
last_ask [] = None
last_ask (c ∷ cs) = option_or (last_ask cs) (ask_in c cs)

-- a grant was taken after it
abbrev pub is_answered : Ask → Bool
is_answered ask = list_any is_taking ask.after

-- a grant that was taken, with what happened before and after that
pub record Taking : Type 0 where
  pub before : List Contact
  pub rights : Rights
  pub caps : List ℕ
  pub after : List Contact

abbrev pub taking_in : List Contact → Contact → List Contact → Option Taking
taking_in before (Taken rights caps) after =
    Some (record { before = before; rights = rights; caps = caps; after = after })
taking_in before _ after = None

-- the last grant that was taken among the contacts that come after those before
abbrev pub last_taking : List Contact → List Contact → Option Taking
last_taking before [] = None
last_taking before (c ∷ cs) = option_or (last_taking (before ++ c ∷ []) cs) (taking_in before c cs)

abbrev pub notices : List Contact → ℕ
notices cs = count_by is_notice cs

-- two notices give a grant up
abbrev pub unless_given_up : Taking → Option Taking
unless_given_up t = if nat_lt (notices t.after) 2 then Some t else None

-- the grant that is held: the last one that was taken, unless it was given up
abbrev pub held_grant : List Contact → Option Taking
held_grant h = option_and_then unless_given_up (last_taking [] h)

-- a packet that used a grant
pub record Use : Type 0 where
  pub time : ℕ
  pub length : ℕ
  pub nonce : ℕ

abbrev pub uses_in : Contact → List Use
uses_in (Prepared time (shape.List held) length) = record { time = time; length = length; nonce = held.nonce } ∷ []
uses_in (Prepared time (shape.NonceOnly nonce) length) = record { time = time; length = length; nonce = nonce } ∷ []
uses_in (Prepared time (shape.Renewal held) length) = record { time = time; length = length; nonce = held.nonce } ∷ []
uses_in _ = []

-- the renewals, lists and nonces among some contacts
abbrev pub uses : List Contact → List Use
uses cs = flat_map uses_in cs

-- where a notice stands among some contacts, those after the first one
abbrev pub after_notice : List Contact → Option (List Contact)
after_notice [] = None
after_notice (c ∷ cs) = if is_notice c then Some cs else after_notice cs

-- what counts for the life of a grant: all contacts since it was taken, or since a notice came
abbrev pub since_notice : List Contact → List Contact
since_notice cs = unwrap_or (after_notice cs) cs

-- the greatest, over the packets, of a packet's time and the credits from it on
abbrev pub life_of : Rights → List Use → ℕ
life_of rights us = latest_end (λ u. u.time) (λ u. credit_of u.length rights) us

abbrev pub first_nonce : List Use → Option ℕ
first_nonce [] = None
first_nonce (u ∷ us) = Some u.nonce

abbrev pub time : ℕ → Time
time n = record { 0 = n }

-- a grant by what happened: the time of the last ask before it, the nonce of the first packet
-- that used it, the bytes of all that did, its life, and the notices on it
abbrev pub grant_of : Taking → Grant
grant_of t = record {
  rights = t.rights;
  caps = t.caps;
  nonce = first_nonce (uses t.after);
  asked = time (option_map_or (λ ask. ask.time) (last_ask t.before) 0);
  used = sum_by (λ u. u.length) (uses t.after);
  life = life_of t.rights (uses (since_notice t.after));
  notices = notices t.after;
}

-- the time of the last ask
abbrev pub asked_at : List Contact → Option Time
asked_at h = option_map (λ ask. time ask.time) (last_ask h)

-- there was an ask, and the last one isn't answered
abbrev pub awaits : List Contact → Bool
awaits h = option_map_or (λ ask. not (is_answered ask)) (last_ask h) false

-- a sender of version 2 takes all rights, and one of version 1 those that its shims can carry
abbrev pub is_within : ℕ → Rights → Bool
is_within version rights = (version == 2) || carries 1 rights

-- a grant of these rights is taken by a sender of that version
abbrev pub takes : ℕ → List Contact → Rights → Bool
takes version h rights = awaits h && is_within version rights

-- the grant that is held, by what happened
abbrev pub grant_held : List Contact → Option Grant
grant_held h = option_map grant_of (held_grant h)
