-- A text has one list of rows at most.
use Rattle.tva_trace.proofs.Common.{◌≡◌, List, [], ◌∷◌, ℕ, refl, sym, ap, subst, ◌∙◌, Result, Ok, Err, IfOk, AllZip, Carried, one_shim, some_bytes, Config, Row, RowWhat, TraceFault, SaidRow, SaidShim, Bytes, Built, SaidWhat, CarriedByBytes, AreRows, CarriedBy, Means, MeansWhat}
use Rattle.tva_base.specs.declared.packet.Time.{Time}
use Rattle.tva_shim.specs.declared.packets.Carried.TheVariants as carried
use Rattle.tva_rows.specs.declared.rows.RowWhat.TheVariants as what
use Rattle.tva_trace.specs.declared.rows.TraceError.{TraceError}
use Rattle.tva_trace.specs.declared.said.SaidWhat.TheVariants as say
use Rattle.tva_trace.specs.Packed.{AnswersPacked}

bytes_mean_one : (bytes : List ℕ) (a b : Carried) → CarriedByBytes bytes a → CarriedByBytes bytes b → a ≡ b
bytes_mean_one bytes carried.Nothing carried.Nothing p q = refl
bytes_mean_one bytes carried.Nothing (carried.Shim t) p q = absurd (some_bytes t (q.1 ∙ p))
bytes_mean_one bytes carried.Nothing (carried.Malformed n) p q = absurd (q.0 p)
bytes_mean_one bytes (carried.Shim s) carried.Nothing p q = absurd (some_bytes s (p.1 ∙ q))
bytes_mean_one bytes (carried.Shim s) (carried.Shim t) p q = ap carried.Shim (one_shim s t p.0 q.0 (p.1 ∙ sym q.1))
bytes_mean_one bytes (carried.Shim s) (carried.Malformed n) p q = absurd (q.1 s p.0 p.1)
bytes_mean_one bytes (carried.Malformed m) carried.Nothing p q = absurd (p.0 q)
bytes_mean_one bytes (carried.Malformed m) (carried.Shim t) p q = absurd (p.1 t q.0 q.1)
bytes_mean_one bytes (carried.Malformed m) (carried.Malformed n) p q = ap carried.Malformed (p.2 ∙ sym q.2)

carried_is_one : (shim : SaidShim) (a b : Carried) → CarriedBy shim a → CarriedBy shim b → a ≡ b
carried_is_one (Bytes bytes) a b p q = bytes_mean_one bytes a b p q
carried_is_one (Built shim) a b p q = p ∙ sym q

what_is_one : (said : SaidWhat) (a b : RowWhat) → MeansWhat said a → MeansWhat said b → a ≡ b
what_is_one (say.Send dst payload) a b p q = p ∙ sym q
what_is_one (say.File dst size segment) a b p q = p ∙ sym q
what_is_one (say.Tick dst) a b p q = p ∙ sym q
what_is_one (say.Inject flow payload shim) a b p q =
    p.2 ∙ ap (what.Inject flow payload) (carried_is_one shim p.0 q.0 p.1 q.1) ∙ sym q.2

row_from : Time → ℕ → RowWhat → Row
row_from time node w = record { time = time; node = node; what = w }

row_same : (a b : Row) → a.time ≡ b.time → a.node ≡ b.node → a.what ≡ b.what → a ≡ b
unfolding row_from
row_same a b t n w =
    ap (λ (x : Time). row_from x a.node a.what) t
    ∙ ap (λ (x : ℕ). row_from b.time x a.what) n
    ∙ ap (row_from b.time b.node) w

row_is_one : (said : SaidRow) (a b : Row) → Means said a → Means said b → a ≡ b
row_is_one said a b p q = row_same a b (p.0 ∙ sym q.0) (p.1 ∙ sym q.1) (what_is_one said.what a.what b.what p.2 q.2)

rows_meant : (said : List SaidRow) (a b : List Row) → AllZip Means said a → AllZip Means said b → a ≡ b
rows_meant [] [] [] p q = refl
rows_meant [] [] (y ∷ ys) p q = absurd q
rows_meant [] (x ∷ xs) b p q = absurd p
rows_meant (s ∷ said) [] b p q = absurd p
rows_meant (s ∷ said) (x ∷ xs) [] p q = absurd q
rows_meant (s ∷ said) (x ∷ xs) (y ∷ ys) p q =
    ap (λ z. z ∷ xs) (row_is_one s x y p.0 q.0) ∙ ap (λ zs. y ∷ zs) (rows_meant said xs ys p.1 q.1)

pub one_said : (a b : List SaidRow) → ◌≡◌ {A = Result (List SaidRow) TraceFault} (Ok a) (Ok b) → a ≡ b
one_said a b e = cc

pub rows_are_one : (config : Config) (text : List ℕ) (a b : List Row) → AreRows config text a → AreRows config text b → a ≡ b
rows_are_one config text a b p q =
    let same : q.0 ≡ p.0 = one_said q.0 p.0 (sym q.1 ∙ p.1) in
    rows_meant p.0 a b p.2 (subst (λ (said : List SaidRow). AllZip Means said b) same q.2)

-- the rows of an answer are the text's only ones
pub no_others : (config : Config) (text : List ℕ) (r : Result (List Row) TraceError) → AnswersPacked config text r → IfOk r (λ rows. (other : List Row) → AreRows config text other → other ≡ rows)
no_others config text (Ok rows) are = λ other more. rows_are_one config text other rows more are
no_others config text (Err fault) are = tt
