-- Product: the rows of a generated trace.
use Rattle.std.specs.Prelude.{ℕ, zero, suc, if◌then◌else◌, List, [], ◌∷◌, ◌++◌, length}
use Rattle.std.specs.Prelude.{Option, Some, None, codes, decimal, slice_get}
use Rattle.std.specs.List.{join_with_byte}
use Rattle.rand_pcg.specs.Lcg.{Lcg}
use Rattle.tva_base.specs.declared.plan.HostPlan.{HostPlan}
use Rattle.tva_gen.specs.{declared.draw.RowWords.RowWords, Hosts.address_text}
use Rattle.tva_gen.specs.Draws.{state_behind, draw_at, host_number, is_raw, later, payload}

-- the fields of a row that gives the bytes of a shim, and of one at which its host sends
abbrev pub raw_fields : ℕ → HostPlan → HostPlan → ℕ → List (List ℕ)
raw_fields time from to bytes =
    decimal time ∷ from.name ∷ codes "raw" ∷ address_text from.address ∷ address_text to.address ∷ decimal bytes
    ∷ codes "100600" ∷ []

abbrev pub send_fields : ℕ → HostPlan → HostPlan → ℕ → List (List ℕ)
send_fields time from to bytes =
    decimal time ∷ from.name ∷ codes "send" ∷ [] ∷ address_text to.address ∷ decimal bytes ∷ [] ∷ []

-- fields, joined by commas, and a line feed
abbrev pub joined : List (List ℕ) → List ℕ
joined fields = join_with_byte 44 fields ++ codes "\n"

-- the line of a row between two hosts
abbrev pub line_between : ℕ → RowWords → Option HostPlan → Option HostPlan → List ℕ
line_between time d (Some from) (Some to) =
    joined (if is_raw d then raw_fields time from to (payload d) else send_fields time from to (payload d))
line_between time d (Some from) None = []
line_between time d None to = []

-- the line of a row at a time: each host is the one that its word names
unfoldable pub row_line : List HostPlan → ℕ → RowWords → List ℕ
row_line hosts time d =
    line_between time d (slice_get hosts (host_number (length hosts) d.from))
    (slice_get hosts (host_number (length hosts) d.to))

-- the lines of so many rows behind a time, each drawn from the state behind the row before
unfoldable pub drawn_rows : ℕ → List HostPlan → ℕ → ℕ → Lcg → List ℕ
drawn_rows horizon hosts zero time g = []
drawn_rows horizon hosts (suc n) time g =
    let now = later horizon time (draw_at g) in
    row_line hosts now (draw_at g) ++ drawn_rows horizon hosts n now (state_behind g)
