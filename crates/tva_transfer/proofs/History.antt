-- What a host knows of files, and which act it came from.
use Rattle.tva_transfer.proofs.Common.{◌≡◌, ℕ, ◌+◌, ◌≤◌, ◌⊎◌, cond, eqb, List, [], ◌∷◌, ◌++◌, Some, map, refl, sym, ap, subst, inl, inr, ◌∙◌, ⊎_elim, append_assoc, add-zero, zero-add, add_assoc, arith, Contains, filter, sum_by, and_parts, cases_Bool, cond_both, eqb-true, append-nil, map-append, Contains-push_cases, filter-append, sum_by-cons, Address, Upper, Data, DataLine, PacketData, Files, Act, Filed, Ticked, Came, after_act, after_upper, files_of, heard, is_of, next_of, range_of, with_range, Follow, ranges_of, rules}
use Rattle.tva_transfer.proofs.Acts.{by_last}
use Rattle.tva_transfer.proofs.Knowing.{next_of-after, next_of-same}
use Rattle.tva_transfer.proofs.Standing.{files_of-push}

-- ## ranges follow one another

follow_more : (from : ℕ) (rs : List DataLine) (r : DataLine) → Follow from rs → r.first ≡ from + sum_by (λ (x : DataLine). x.bytes) rs → Follow from (rs ++ r ∷ [])
follow_more from [] r f e = (e ∙ add-zero from, tt)
follow_more from (x ∷ rs) r f e = (f.0, follow_more (from + x.bytes) rs r f.1 (e ∙ ap (λ n. from + n) (sum_by-cons (λ (y : DataLine). y.bytes) x rs) ∙ sym (add_assoc from x.bytes (sum_by (λ (y : DataLine). y.bytes) rs))))

ranges_of-more : (files : Files) (at : Address) (r : DataLine) (source : Address) (transfer : ℕ) → ranges_of (with_range at (Some r) files) source transfer ≡ ranges_of files source transfer ++ cond (is_of source transfer (at, r)) (r ∷ []) []
ranges_of-more files at r source transfer = grind (arith, filter-append, map-append)

bytes_of : (xs : List (Address × DataLine)) → sum_by (λ (x : DataLine). x.bytes) (map (λ (x : Address × DataLine). x.1) xs) ≡ sum_by (λ (x : Address × DataLine). x.1.bytes) xs
bytes_of [] = refl
bytes_of (x ∷ xs) = search (rules, sum_by-cons, bytes_of xs)

follow_data : (files : Files) (at source : Address) (transfer : ℕ) (r : DataLine) → r.first ≡ next_of files at r.transfer → Follow 0 (ranges_of files source transfer) → Follow 0 (ranges_of (with_range at (Some r) files) source transfer)
follow_data files at source transfer r e f = rw (ranges_of-more files at r source transfer) (⊎_elim
    (λ yes. rw yes (follow_more 0 (ranges_of files source transfer) r f
    (e ∙ sym (next_of-same files at source r.transfer transfer yes) ∙ sym (bytes_of (filter (is_of source transfer) files.ranges)) ∙ sym (zero-add _))))
    (λ no. rw no (subst (λ xs. Follow 0 xs) (sym (append-nil (ranges_of files source transfer))) f))
    (cases_Bool (is_of source transfer (at, r))))

follow_upper : (files : Files) (at : Address) (above : Upper) (source : Address) (transfer : ℕ) → Follow 0 (ranges_of files source transfer) → Follow 0 (ranges_of (after_upper files at above) source transfer)
unfolding after_upper range_of
follow_upper files at above source transfer f = grind (arith, follow_data, eqb-true, cases_Bool)

follow_act : (home : Address) (files : Files) (a : Act) (source : Address) (transfer : ℕ) → Follow 0 (ranges_of files source transfer) → Follow 0 (ranges_of (after_act home files a) source transfer)
follow_act home files a source transfer f = grind (arith, follow_upper)

pub ranges_follow : (home : Address) (acts : List Act) (source : Address) (transfer : ℕ) → Follow 0 (ranges_of (files_of home acts) source transfer)
ranges_follow home acts source transfer = by_last (λ xs. Follow 0 (ranges_of (files_of home xs) source transfer)) tt
    (λ xs a f. rw (files_of-push home xs a) (follow_act home (files_of home xs) a source transfer f)) acts

-- ## how much was delivered never falls

next_of-upper : (files : Files) (at : Address) (above : Upper) (source : Address) (transfer : ℕ) → next_of files source transfer ≤ next_of (after_upper files at above) source transfer
unfolding after_upper
next_of-upper files at above source transfer = grind (arith, next_of-after, cond_both)

next_of-act : (home : Address) (files : Files) (a : Act) (source : Address) (transfer : ℕ) → next_of files source transfer ≤ next_of (after_act home files a) source transfer
next_of-act home files a source transfer = grind (arith, next_of-upper)

pub next_of-rises : (home : Address) (acts more : List Act) (source : Address) (transfer : ℕ) → next_of (files_of home acts) source transfer ≤ next_of (files_of home (acts ++ more)) source transfer
next_of-rises home acts more source transfer = by_last (λ xs. next_of (files_of home acts) source transfer ≤ next_of (files_of home (acts ++ xs)) source transfer)
    (rw (append-nil acts) (omega arith))
    (λ xs a le. rw (← append_assoc acts xs (a ∷ []), files_of-push home (acts ++ xs) a) (omega (arith, le, next_of-act home (files_of home (acts ++ xs)) a source transfer))) more

-- ## where a range came from, and what is acknowledged

-- one of the acts is that a packet comes in from the source with that upper part
pub record HasCome (home : Address) (acts : List Act) (source : Address) (above : Upper) : Type 0 where
  pub before : List Act
  pub after : List Act
  pub packet : PacketData
  pub is : acts ≡ before ++ Came packet ∷ after
  pub from : packet.flow.src.0 ≡ source.0
  pub brings : heard home packet ≡ above

pub come_before : (home : Address) (acts : List Act) (a : Act) (source : Address) (above : Upper) → HasCome home acts source above → HasCome home (acts ++ a ∷ []) source above
come_before home acts a source above h = grind (arith, append_assoc)

pub come_now : (home : Address) (acts : List Act) (p : PacketData) (source : Address) (above : Upper) → p.flow.src.0 ≡ source.0 → heard home p ≡ above → HasCome home (acts ++ Came p ∷ []) source above
come_now home acts p source above from brings = record { before = acts; after = []; packet = p; is = refl; from = from; brings = brings }

range_with : (files : Files) (at : Address) (one : DataLine) (source : Address) (transfer : ℕ) (r : DataLine) → Contains (ranges_of (with_range at (Some one) files) source transfer) r → Contains (ranges_of files source transfer) r ⊎ ((at.0 ≡ source.0) × (one.transfer ≡ transfer) × (one ≡ r))
range_with files at one source transfer r c =
    let has = subst (λ xs. Contains xs r) (ranges_of-more files at one source transfer) c in
    ⊎_elim
    (λ yes. let parts = and_parts (eqb at.0 source.0) (eqb one.transfer transfer) yes in
    ⊎_elim (λ old. inl old) (λ new. inr (eqb-true at.0 source.0 parts.0, eqb-true one.transfer transfer parts.1, new))
    (Contains-push_cases (ranges_of files source transfer) one r (subst (λ b. Contains (ranges_of files source transfer ++ cond b (one ∷ []) []) r) yes has)))
    (λ no. inl (subst (λ xs. Contains xs r) (append-nil (ranges_of files source transfer)) (subst (λ b. Contains (ranges_of files source transfer ++ cond b (one ∷ []) []) r) no has)))
    (cases_Bool (is_of source transfer (at, one)))

range_upper : (files : Files) (at : Address) (above : Upper) (source : Address) (transfer : ℕ) (r : DataLine) → Contains (ranges_of (after_upper files at above) source transfer) r → Contains (ranges_of files source transfer) r ⊎ ((at.0 ≡ source.0) × (above ≡ Data transfer r.first r.bytes))
unfolding after_upper range_of
range_upper files at (Data number first bytes) source transfer r c = ⊎_elim
    (λ yes. ⊎_elim (λ old. inl old) (λ new. let same = new.2 in let numbers = new.1 in inr (new.0, ap (λ n. Data n first bytes) numbers ∙ ap (λ (x : DataLine). Data transfer x.first x.bytes) same))
    (range_with files at (record { transfer = number; first = first; bytes = bytes }) source transfer r (rw yes at c)))
    (λ no. inl (rw no at c))
    (cases_Bool (eqb first (next_of files at number)))
range_upper files at _ source transfer r c = inl c

range_act : (home : Address) (xs : List Act) (a : Act) (source : Address) (transfer : ℕ) (r : DataLine) → (Contains (ranges_of (files_of home xs) source transfer) r → HasCome home xs source (Data transfer r.first r.bytes)) → Contains (ranges_of (after_act home (files_of home xs) a) source transfer) r → HasCome home (xs ++ a ∷ []) source (Data transfer r.first r.bytes)
range_act home xs (Filed dst size segment) source transfer r before c = come_before home xs (Filed dst size segment) source (Data transfer r.first r.bytes) (before c)
range_act home xs (Ticked dst) source transfer r before c = come_before home xs (Ticked dst) source (Data transfer r.first r.bytes) (before c)
range_act home xs (Came p) source transfer r before c = ⊎_elim
    (λ old. come_before home xs (Came p) source (Data transfer r.first r.bytes) (before old))
    (λ new. come_now home xs p source (Data transfer r.first r.bytes) new.0 new.1)
    (range_upper (files_of home xs) p.flow.src (heard home p) source transfer r c)

-- each range that was delivered came in
pub ranges_came : (home : Address) (acts : List Act) (source : Address) (transfer : ℕ) (r : DataLine) → Contains (ranges_of (files_of home acts) source transfer) r → HasCome home acts source (Data transfer r.first r.bytes)
ranges_came home acts source transfer r = by_last (λ xs. Contains (ranges_of (files_of home xs) source transfer) r → HasCome home xs source (Data transfer r.first r.bytes))
    (λ c. absurd (omega (arith, c.1)))
    (λ xs a before c. range_act home xs a source transfer r before (rw (files_of-push home xs a) at c)) acts
