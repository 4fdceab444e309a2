-- What one more mile changes in what is read off a list of miles.
use Rattle.tva_laws.proofs.Common.{◌≡◌, ℕ, List, [], ◌∷◌, ◌++◌, Option, Some, None, refl, ap, sym, ◌∙◌, append_assoc, append-nil, option_or, Rights, Charge, Shape, Mile, Went, Got, Told, contact_in, contacts, paid_in, charges_in, ask_came_in, last_came, since_got, AreAuthorised, arith, nat_tests}

pub contacts-push : (ms : List Mile) (m : Mile) → contacts (ms ++ m ∷ []) ≡ contacts ms ++ contact_in m ∷ []
contacts-push [] m = refl
contacts-push (d ∷ ds) m = ap (λ cs. contact_in d ∷ cs) (contacts-push ds m)

pub charges-push : (ms : List Mile) (m : Mile) → charges_in (ms ++ m ∷ []) ≡ charges_in ms ++ paid_in m
charges-push [] m = append-nil (paid_in m)
charges-push (d ∷ ds) m = ap (λ cs. paid_in d ++ cs) (charges-push ds m) ∙ sym (append_assoc (paid_in d) (charges_in ds) (paid_in m))

pub came-got : (ms : List Mile) (rights : Rights) (caps : List ℕ) (came : ℕ) → last_came (ms ++ Got rights caps came ∷ []) ≡ Some came
came-got [] rights caps came = refl
came-got (d ∷ ds) rights caps came = ap (λ o. option_or o (ask_came_in d)) (came-got ds rights caps came)

pub came-same : (ms : List Mile) (m : Mile) → ask_came_in m ≡ None → last_came (ms ++ m ∷ []) ≡ last_came ms
came-same [] m e = e
came-same (d ∷ ds) m e = ap (λ o. option_or o (ask_came_in d)) (came-same ds m e)

pub since-got : (own ms : List Mile) (rights : Rights) (caps : List ℕ) (came : ℕ) → since_got own (ms ++ Got rights caps came ∷ []) ≡ []
since-got own [] rights caps came = refl
since-got own (z0 ∷ ds) rights caps came = grind (arith, nat_tests, since-got (own ++ z0 ∷ []) ds rights caps came, since-got [] ds rights caps came)

pub since-went : (own ms : List Mile) (sent : ℕ) (s : Shape) (bytes : ℕ) (paid : Option Charge)
    → since_got own (ms ++ Went sent s bytes paid ∷ []) ≡ since_got own ms ++ Went sent s bytes paid ∷ []
since-went own [] sent s bytes paid = refl
since-went own (z0 ∷ ds) sent s bytes paid = grind (arith, nat_tests, since-went (own ++ z0 ∷ []) ds sent s bytes paid, since-went [] ds sent s bytes paid)

pub since-told : (own ms : List Mile) → since_got own (ms ++ Told ∷ []) ≡ since_got own ms ++ Told ∷ []
since-told own [] = refl
since-told own (z0 ∷ ds) = grind (arith, nat_tests, since-told (own ++ z0 ∷ []) ds, since-told [] ds)

pub authorised-front : (ms : List Mile) (m : Mile) → AreAuthorised (ms ++ m ∷ []) → AreAuthorised ms
authorised-front [] m k = tt
authorised-front (d ∷ ds) m k = (k.0, authorised-front ds m k.1)
