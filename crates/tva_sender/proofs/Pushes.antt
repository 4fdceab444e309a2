-- What one more contact changes in what is read off a list of contacts.
use Rattle.tva_sender.proofs.Common.{◌≡◌, ℕ, ◌+◌, Bool, true, false, not, cond, List, [], ◌∷◌, ◌++◌, Option, Some, None, refl, ap, sym, max, arith, append_assoc, append-nil, option_or, option_map, option_map_or, unwrap_or, sum_by-cons, sum_by_push, Rights, Contact, Prepared, Taken, Notice, is_notice, Ask, ask_in, last_ask, Taking, taking_in, last_taking, notices, Use, uses_in, uses, after_notice, since_notice, life_of, first_nonce, is_answered, nat_tests, common_steps}
use Rattle.tva_base.specs.Credit.{credit_of}

-- the last of two, and what a function makes of it
or_none : {X : Type 0} (x : Option X) → option_or None x ≡ option_or x None
or_none x = grind arith

or_map : {X Y : Type 0} (f : X → Y) (y : Option Y) (a b : Option X) → option_or (option_or y (option_map f a)) (option_map f b) ≡ option_or y (option_map f (option_or a b))
or_map f y a b = grind arith

-- the time of an ask, if there is one, and whether it isn't answered
abbrev pub time_of : Option Ask → ℕ
time_of o = option_map_or (λ (ask : Ask). ask.time) o 0

abbrev pub is_open : Option Ask → Bool
is_open o = option_map_or (λ (ask : Ask). not (is_answered ask)) o false

abbrev pub ask_more : Contact → Ask → Ask
ask_more c ask = record { time = ask.time; after = ask.after ++ c ∷ [] }

ask_in-push : (d : Contact) (cs : List Contact) (c : Contact) → ask_in d (cs ++ c ∷ []) ≡ option_map (ask_more c) (ask_in d cs)
ask_in-push d cs c = grind (arith, ask_more)

pub last_ask-push : (h : List Contact) (c : Contact) → last_ask (h ++ c ∷ []) ≡ option_or (ask_in c []) (option_map (ask_more c) (last_ask h))
last_ask-push [] c = or_none (ask_in c [])
last_ask-push (d ∷ ds) c = rw (last_ask-push ds c, ask_in-push d ds c) (or_map (ask_more c) (ask_in c []) (last_ask ds) (ask_in d ds))

abbrev pub taking_more : Contact → Taking → Taking
taking_more c t = record { before = t.before; rights = t.rights; caps = t.caps; after = t.after ++ c ∷ [] }

taking_in-push : (before : List Contact) (d : Contact) (cs : List Contact) (c : Contact) → taking_in before d (cs ++ c ∷ []) ≡ option_map (taking_more c) (taking_in before d cs)
taking_in-push before d cs c = grind arith

pub last_taking-push : (before h : List Contact) (c : Contact) → last_taking before (h ++ c ∷ []) ≡ option_or (taking_in (before ++ h) c []) (option_map (taking_more c) (last_taking before h))
last_taking-push before [] c = rw (append-nil before) (or_none (taking_in before c []))
last_taking-push before (d ∷ ds) c =
    rw (last_taking-push (before ++ d ∷ []) ds c, taking_in-push before d ds c, append_assoc before (d ∷ []) ds)
    (or_map (taking_more c) (taking_in (before ++ d ∷ ds) c []) (last_taking (before ++ d ∷ []) ds) (taking_in before d ds))

pub notices-push : (cs : List Contact) (c : Contact) → notices (cs ++ c ∷ []) ≡ notices cs + cond (is_notice c) 1 0
notices-push cs c = sum_by_push (λ d. cond (is_notice d) 1 0) cs c

pub uses-push : (cs : List Contact) (c : Contact) → uses (cs ++ c ∷ []) ≡ uses cs ++ uses_in c
uses-push [] c = append-nil (uses_in c)
uses-push (d ∷ ds) c = rw (uses-push ds c) (sym (append_assoc (uses_in d) (uses ds) (uses_in c)))

after_notice-push : (cs : List Contact) (c : Contact) → is_notice c ≡ false → after_notice (cs ++ c ∷ []) ≡ option_map (λ rest. rest ++ c ∷ []) (after_notice cs)
after_notice-push [] c other = rw other refl
after_notice-push (d ∷ ds) c other = rw (after_notice-push ds c other) (elim (is_notice d) as (λ b. cond b (Some (ds ++ c ∷ [])) (option_map (λ rest. rest ++ c ∷ []) (after_notice ds)) ≡ option_map (λ rest. rest ++ c ∷ []) (cond b (Some ds) (after_notice ds))) [ true ↦ refl | false ↦ refl ])

since_more : (o : Option (List Contact)) (cs : List Contact) (c : Contact) → unwrap_or (option_map (λ rest. rest ++ c ∷ []) o) (cs ++ c ∷ []) ≡ unwrap_or o cs ++ c ∷ []
since_more o cs c = grind arith

pub since_notice-push : (cs : List Contact) (c : Contact) → is_notice c ≡ false → since_notice (cs ++ c ∷ []) ≡ since_notice cs ++ c ∷ []
since_notice-push cs c other = rw (after_notice-push cs c other) (since_more (after_notice cs) cs c)

notices-cons : (d : Contact) (cs : List Contact) → notices (d ∷ cs) ≡ cond (is_notice d) 1 0 + notices cs
notices-cons d cs = sum_by-cons (λ e. cond (is_notice e) 1 0) d cs

notice_first : (cs : List Contact) → notices cs ≡ 0 → after_notice (cs ++ Notice ∷ []) ≡ Some []
notice_first [] none = refl
notice_first (Prepared time shape length ∷ ds) none = notice_first ds (omega (arith, none, notices-cons (Prepared time shape length) ds))
notice_first (Taken rights caps ∷ ds) none = notice_first ds (omega (arith, none, notices-cons (Taken rights caps) ds))
notice_first (Notice ∷ ds) none = absurd (omega (arith, none, notices-cons Notice ds))

-- the first notice leaves nothing that counts
pub since_notice-first : (cs : List Contact) → notices cs ≡ 0 → since_notice (cs ++ Notice ∷ []) ≡ []
since_notice-first cs none = ap (λ o. unwrap_or o (cs ++ Notice ∷ [])) (notice_first cs none)

pub life_of-push : (rights : Rights) (us : List Use) (u : Use) → life_of rights (us ++ u ∷ []) ≡ max (life_of rights us) u.time + credit_of u.length rights
life_of-push rights [] u = omega (arith, sum_by-cons (λ (w : Use). credit_of w.length rights) u [])
life_of-push rights (d ∷ ds) u = grind (arith, common_steps, nat_tests, sum_by-cons, sum_by_push, life_of-push rights ds u)

pub first_nonce-push : (us : List Use) (u : Use) → first_nonce (us ++ u ∷ []) ≡ Some (unwrap_or (first_nonce us) u.nonce)
first_nonce-push us u = grind arith
