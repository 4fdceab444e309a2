-- Product: the shape of the next packet.
use Rattle.std.specs.Prelude.{ℕ, Bool, true, ◌+◌, ◌-◌, ◌*◌, nat_lt, nat_le, ◌&&◌, ◌||◌, if◌then◌else◌, List, length, Option, Some, None, unwrap_or}
use Rattle.tva_sender.specs.declared.{shape.Held.Held, shape.Shape.Shape, grant.Grant.Grant}
use Rattle.tva_sender.specs.declared.shape.Shape.TheVariants as shape
use Rattle.tva_base.specs.{declared.packet.Time.Time, Versions.rights_size}
use Rattle.tva_sender.specs.Contacts.{Contact, asked_at, grant_held}

-- the lengths of packets with a body of so many bytes; that of a list is by the version of its shim
abbrev pub request_length : ℕ → ℕ
request_length body = 23 + body

abbrev pub nonce_length : ℕ → ℕ
nonce_length body = 28 + body

abbrev pub list_length : ℕ → List ℕ → ℕ → ℕ
list_length version caps body = 30 + rights_size version + 8 * length caps + body

-- the length of a packet in that shape; a sender counts no legacy packet
abbrev pub length_of : ℕ → Shape → ℕ → ℕ
length_of version shape.Request body = request_length body
length_of version (shape.List held) body = list_length version held.caps body
length_of version (shape.NonceOnly nonce) body = nonce_length body
length_of version (shape.Renewal held) body = list_length version held.caps body
length_of version shape.Legacy body = 0

-- a packet of that length may use the grant: a second and the margin before its time is over,
-- and within its bytes
abbrev pub fits : ℕ → ℕ → Grant → ℕ → Bool
fits margin now g bytes =
    nat_le (now + margin + 1000000000) (g.asked.0 + g.rights.t * 1000000000)
    && nat_le (g.used + bytes) (1024 * g.rights.n)

-- more than half of its bytes or of its time would be used
abbrev pub is_half_used : ℕ → Grant → ℕ → Bool
is_half_used now g bytes =
    nat_lt (1024 * g.rights.n) (2 * (g.used + bytes)) || nat_lt (g.rights.t * 1000000000) (2 * (now - g.asked.0))

-- the routers on the way know its nonce
abbrev pub is_alive : ℕ → ℕ → Grant → Bool
is_alive margin now g = nat_lt (now + margin) g.life

-- a renewal of that length is due
abbrev pub renews : ℕ → ℕ → Grant → ℕ → Bool
renews margin now g bytes = fits margin now g bytes && is_half_used now g bytes

-- a packet of that length may show the nonce alone
abbrev pub takes_nonce : ℕ → ℕ → Grant → ℕ → Bool
takes_nonce margin now g bytes = is_alive margin now g && fits margin now g bytes

-- the nonce of a grant: the one that was offered with the first packet that used it
abbrev pub nonce_of : Grant → ℕ → ℕ
nonce_of g offered = unwrap_or g.nonce offered

abbrev pub held : Grant → ℕ → Held
held g offered = record { nonce = nonce_of g offered; rights = g.rights; caps = g.caps }

abbrev pub without_grant : Bool → Shape
without_grant may_ask = if may_ask then shape.Request else shape.Legacy

-- the first row that holds, under a grant
unfoldable pub under_grant : ℕ → ℕ → Bool → Grant → ℕ → ℕ → ℕ → Shape
under_grant margin version may_ask g now body offered =
    if may_ask && renews margin now g (list_length version g.caps body) then shape.Renewal (held g offered)
    else (if takes_nonce margin now g (nonce_length body) then shape.NonceOnly (nonce_of g offered)
    else (if fits margin now g (list_length version g.caps body) then shape.List (held g offered)
    else without_grant may_ask))

abbrev pub by_grant : ℕ → ℕ → Bool → Option Grant → ℕ → ℕ → ℕ → Shape
by_grant margin version may_ask None now body offered = without_grant may_ask
by_grant margin version may_ask (Some g) now body offered = under_grant margin version may_ask g now body offered

-- there was no ask, or the last one is so long ago
abbrev pub may_ask : ℕ → Option Time → ℕ → Bool
may_ask retry None now = true
may_ask retry (Some asked) now = nat_le (asked.0 + retry) now

-- the shape of a packet for a peer with which so much happened, by a sender's margin and retry and the
-- version of its shims
abbrev pub shape_of : ℕ → ℕ → ℕ → List Contact → ℕ → ℕ → ℕ → Shape
shape_of margin retry version h now body offered =
    by_grant margin version (may_ask retry (asked_at h) now) (grant_held h) now body offered
