-- Mail that nodes get, one delivery after another.
use Rattle.tva_net.proofs.Common.{◌≡◌, ℕ, zero, suc, ◌<◌, ◌≤◌, Bool, true, false, cond, List, [], ◌∷◌, ◌++◌, length, get_or, set, map, filter, All, Option, refl, sym, subst, ◌∙◌, ap, arith, inl, inr, ◌==◌, ◌&&◌, nat_le, slice_get, option_map_or, AllZip, cases_eq, eq-eqb, ne_eqb, lt-leb, le-leb, and_right, append-nil, append_assoc, length-set, get_or-set_same, get_or-set_other, get_or_default, map-append, filter-append, All-weaker, AllZip-get_or, slice_get-get_or, LinkPlan, Input, Sending, input_time, Site, Gone, NodeState, Fits, IsAsBefore, arrival, CanDeliver, GotMail, GotMails, IsPostable, IsSameBut, KeepsWork, goes_to, mail_at, mail_to, HasNoNews, AllZip-same, AllZip-long}
use Rattle.tva_net.proofs.Lists.{zip_more}

-- ## what is kept

pub keeps_same : (v : NodeState) → KeepsWork v v
keeps_same v = record { site = refl; horizon = refl; events = refl; sendings = refl; worked_to = refl; keeps = refl; news = λ h. h }

-- the same from the clause of a post
pub kept_by : (old new : NodeState) → IsAsBefore old new → KeepsWork old new
kept_by old new h = record {
  site = h.site;
  horizon = h.horizon;
  events = h.events;
  sendings = h.sendings;
  worked_to = h.worked_to;
  keeps = h.keeps;
  news = λ had. record {
    told = ap (λ (g : Gone). g.told) h.gone ∙ (had.told ∙ ap length (sym h.events));
    sent = ap (λ (g : Gone). g.sent) h.gone ∙ (had.sent ∙ ap length (sym h.sendings));
  };
}

pub keeps_more : (u v w : NodeState) → KeepsWork u v → KeepsWork v w → KeepsWork u w
keeps_more u v w a b = record {
  site = b.site ∙ a.site;
  horizon = b.horizon ∙ a.horizon;
  events = b.events ∙ a.events;
  sendings = b.sendings ∙ a.sendings;
  worked_to = b.worked_to ∙ a.worked_to;
  keeps = b.keeps ∙ a.keeps;
  news = λ had. b.news (a.news had);
}

-- one element is written
pub zip_set : {X : Type 0} (R : X → X → Type 0) → ((x : X) → R x x) → (xs : List X) (i : ℕ) (w : X) → R (get_or xs i w) w → AllZip R xs (set xs i w)
zip_set R same [] i w r = tt
zip_set R same (x ∷ xs) zero w r = (r, AllZip-same R same xs)
zip_set R same (x ∷ xs) (suc i) w r = (same x, zip_set R same xs i w r)

-- what is posted to one node keeps what they all have
pub post_keeps : (xs : List NodeState) (n : ℕ) (u w : NodeState) → n < length xs → IsAsBefore (get_or xs n u) w → AllZip KeepsWork xs (set xs n w)
post_keeps xs n u w l same = zip_set KeepsWork keeps_same xs n w (rw (get_or_default xs n w u l) (kept_by (get_or xs n u) w same))

-- and nothing happens to the others
pub same_but : (place : ℕ) (nodes : List NodeState) (v : NodeState) → IsSameBut place nodes (set nodes place v)
same_but place nodes v = (length-set nodes place v, λ other d e. get_or-set_other nodes place other v d e)

pub all_keep : (xs ys zs : List NodeState) → AllZip KeepsWork xs ys → AllZip KeepsWork ys zs → AllZip KeepsWork xs zs
all_keep xs ys zs a b = zip_more KeepsWork keeps_more xs ys zs a b

-- ## what is got

got_nothing : (v : NodeState) → GotMail [] v v
got_nothing v = record { inbox = sym (append-nil v.inbox); stands = λ s. s; keeps = keeps_same v }

got_both : (a b : List Input) (u v w : NodeState) → GotMail a u v → GotMail b v w → GotMail (a ++ b) u w
got_both a b u v w g h = record {
  inbox = h.inbox ∙ (ap (λ (is : List Input). is ++ b) g.inbox ∙ append_assoc u.inbox a b);
  stands = λ s. h.stands (g.stands s);
  keeps = keeps_more u v w g.keeps h.keeps;
}

pub got_none : (mail : ℕ → List Input) (xs : List NodeState) → ((n : ℕ) → mail n ≡ []) → GotMails mail xs xs
got_none mail xs none = record {
  count = refl;
  each = λ n d l. subst (λ (is : List Input). GotMail is (get_or xs n d) (get_or xs n d)) (sym (none n)) (got_nothing (get_or xs n d));
}

pub got_more : (a b c : ℕ → List Input) (xs ys zs : List NodeState) → ((n : ℕ) → a n ++ b n ≡ c n) → GotMails a xs ys → GotMails b ys zs → GotMails c xs zs
got_more a b c xs ys zs e g h = record {
  count = h.count ∙ g.count;
  each = λ n d l.
      let k : n < length ys = omega (arith, g.count) in
      subst (λ (is : List Input). GotMail is (get_or xs n d) (get_or zs n d)) (e n)
      (got_both (a n) (b n) (get_or xs n d) (get_or ys n d) (get_or zs n d) (g.each n d l) (h.each n d k));
}

pub got_agree : (a c : ℕ → List Input) (xs ys : List NodeState) → ((n : ℕ) → a n ≡ c n) → GotMails a xs ys → GotMails c xs ys
got_agree a c xs ys e g = record {
  count = g.count;
  each = λ n d l. subst (λ (is : List Input). GotMail is (get_or xs n d) (get_or ys n d)) (e n) (g.each n d l);
}

-- one node gets mail
pub got_at : (to : ℕ) (mail : List Input) (xs : List NodeState) (u w : NodeState) → to < length xs → GotMail mail (get_or xs to u) w → GotMails (mail_at to mail) xs (set xs to w)
got_at to mail xs u w within g = record {
  count = length-set xs to w;
  each = λ n d l.
      elim (cases_eq to n) [
        | inl e ↦ rw (← e, eq-eqb to to refl, get_or-set_same xs to w d within, get_or_default xs to d u within) g
        | inr e ↦ rw (ne_eqb to n e, get_or-set_other xs to n w d (λ z. e (sym z))) (got_nothing (get_or xs n d))
      ];
}

-- ## mail that is being given

-- of all mail, some is given already, and the rest is left
pub record IsGoing (all left : ℕ → List Input) (old new : List NodeState) : Type 0 where
  pub done : ℕ → List Input
  pub got : GotMails done old new
  pub rest : (n : ℕ) → done n ++ left n ≡ all n

pub going_first : (all : ℕ → List Input) (xs : List NodeState) → IsGoing all all xs xs
going_first all xs = record { done = λ n. []; got = got_none (λ n. []) xs (λ n. refl); rest = λ n. refl }

pub going_more : (all left one less : ℕ → List Input) (xs ys zs : List NodeState) → IsGoing all left xs ys → GotMails one ys zs → ((n : ℕ) → left n ≡ one n ++ less n) → IsGoing all less xs zs
going_more all left one less xs ys zs g h e = record {
  done = λ n. g.done n ++ one n;
  got = got_more g.done one (λ n. g.done n ++ one n) xs ys zs (λ n. refl) g.got h;
  rest = λ n. append_assoc (g.done n) (one n) (less n) ∙ (ap (λ (is : List Input). g.done n ++ is) (sym (e n)) ∙ g.rest n);
}

-- ## what can still be given

pub still_delivers : (mail : ℕ → List Input) (xs ys : List NodeState) (to : ℕ) (input : Input) → GotMails mail xs ys → CanDeliver xs to input → CanDeliver ys to input
still_delivers mail xs ys to input g h = record {
  node = let n = h.node in omega (arith, g.count);
  takes = λ d.
      let k = (g.each to d h.node).keeps in
      let t = h.takes d in
      record {
        late = subst (λ (m : ℕ). m ≤ input_time input) (sym k.worked_to) t.late;
        within = subst (λ (m : ℕ). input_time input ≤ m) (sym k.horizon) t.within;
        fits = subst (λ (s : Site). Fits s.plan input) (sym k.site) t.fits;
      };
}

pub still_postable : (mail : ℕ → List Input) (horizon : ℕ) (links : List LinkPlan) (xs ys : List NodeState) (sent : Sending) → GotMails mail xs ys → IsPostable horizon links xs sent → IsPostable horizon links ys sent
still_postable mail horizon links xs ys sent g h = record {
  link = h.link;
  arrives = λ d l. still_delivers mail xs ys (get_or links sent.link d).to (arrival sent) g (h.arrives d l);
}

-- ## mail of what was sent

pub mail-append : (horizon : ℕ) (links : List LinkPlan) (a b : List Sending) (n : ℕ) → mail_to horizon links (a ++ b) n ≡ mail_to horizon links a n ++ mail_to horizon links b n
mail-append horizon links a b n =
    ap (map arrival) (filter-append (goes_to horizon links n) a b) ∙ map-append arrival (filter (goes_to horizon links n) a) (filter (goes_to horizon links n) b)

and_true : (b : Bool) → (b && true) ≡ b
and_true false = refl
and_true true = refl

map_cond : (s : Sending) (b : Bool) → cond b (arrival s ∷ []) [] ≡ map arrival (cond b (s ∷ []) [])
map_cond s false = refl
map_cond s true = refl

-- a packet that goes to a node
goes_there : (horizon : ℕ) (links : List LinkPlan) (s : Sending) (d : LinkPlan) (n : ℕ) → s.link < length links → s.arrive.0 ≤ horizon → goes_to horizon links n s ≡ ((get_or links s.link d).to == n)
goes_there horizon links s d n within l =
    ap (λ (o : Option LinkPlan). option_map_or (λ link. link.to == n) o false && nat_le s.arrive.0 horizon) (slice_get-get_or links s.link d within)
    ∙ (ap (λ (b : Bool). ((get_or links s.link d).to == n) && b) (le-leb s.arrive.0 horizon l) ∙ and_true ((get_or links s.link d).to == n))

pub mail_of_one : (horizon : ℕ) (links : List LinkPlan) (s : Sending) (d : LinkPlan) (n : ℕ) → s.link < length links → s.arrive.0 ≤ horizon → mail_at (get_or links s.link d).to (arrival s ∷ []) n ≡ mail_to horizon links (s ∷ []) n
mail_of_one horizon links s d n within l =
    map_cond s ((get_or links s.link d).to == n)
    ∙ ap (λ (b : Bool). map arrival (cond b (s ∷ []) [])) (sym (goes_there horizon links s d n within l))

-- a packet that arrives past the horizon goes nowhere
pub mail_of_late : (horizon : ℕ) (links : List LinkPlan) (s : Sending) (n : ℕ) → horizon < s.arrive.0 → mail_to horizon links (s ∷ []) n ≡ []
mail_of_late horizon links s n l =
    ap (λ (b : Bool). map arrival (cond b (s ∷ []) []))
    (and_right (option_map_or (λ link. link.to == n) (slice_get links s.link) false) (nat_le s.arrive.0 horizon) (lt-leb s.arrive.0 horizon l))

-- ## steps

module _ (horizon : ℕ) (links : List LinkPlan) (nodes : List NodeState) (s : Sending) (d : LinkPlan) (link to : ℕ) (l : s.arrive.0 ≤ horizon) (same : link ≡ s.link) (end : to ≡ (get_or links link d).to) where
  there : to ≡ (get_or links s.link d).to
  there = end ∙ ap (λ (k : ℕ). (get_or links k d).to) same

  pub delivers_one : IsPostable horizon links nodes s → CanDeliver nodes to (arrival s)
  delivers_one h = subst (λ (k : ℕ). CanDeliver nodes k (arrival s)) (sym there) (h.arrives d l)

  pub posted_one : (posted : List NodeState) → s.link < length links → GotMails (mail_at to (arrival s ∷ [])) nodes posted → GotMails (mail_to horizon links (s ∷ [])) nodes posted
  posted_one posted within g =
      got_agree (mail_at to (arrival s ∷ [])) (mail_to horizon links (s ∷ [])) nodes posted
      (λ n. ap (λ (k : ℕ). mail_at k (arrival s ∷ []) n) there ∙ mail_of_one horizon links s d n within l) g

pub posted_late : (horizon : ℕ) (links : List LinkPlan) (s : Sending) (nodes : List NodeState) → horizon < s.arrive.0 → GotMails (mail_to horizon links (s ∷ [])) nodes nodes
posted_late horizon links s nodes l = got_none (mail_to horizon links (s ∷ [])) nodes (λ n. mail_of_late horizon links s n l)

-- packets that can be posted still can when mail came
pub postables_still : (mail : ℕ → List Input) (horizon : ℕ) (links : List LinkPlan) (xs ys : List NodeState) (sent : List Sending) → GotMails mail xs ys → All (IsPostable horizon links xs) sent → All (IsPostable horizon links ys) sent
postables_still mail horizon links xs ys sent g h = All-weaker (IsPostable horizon links xs) (IsPostable horizon links ys) (λ s k. still_postable mail horizon links xs ys s g k) sent h

-- one packet more is posted
pub going_one : (horizon : ℕ) (links : List LinkPlan) (all left rest : List Sending) (s : Sending) (nodes now more : List NodeState) → left ≡ s ∷ rest
    → IsGoing (mail_to horizon links all) (mail_to horizon links left) nodes now → GotMails (mail_to horizon links (s ∷ [])) now more
    → IsGoing (mail_to horizon links all) (mail_to horizon links rest) nodes more
going_one horizon links all left rest s nodes now more e h g =
    going_more (mail_to horizon links all) (mail_to horizon links left) (mail_to horizon links (s ∷ [])) (mail_to horizon links rest) nodes now more h g
    (λ n. ap (λ (ss : List Sending). mail_to horizon links ss n) e ∙ mail-append horizon links (s ∷ []) rest n)

-- what nodes that told all got leaves them so
pub all_quiet : (xs ys : List NodeState) → AllZip KeepsWork xs ys → All HasNoNews xs → All HasNoNews ys
all_quiet xs ys z h = λ n d l. let k : n < length xs = omega (arith, l, AllZip-long KeepsWork xs ys z) in (AllZip-get_or KeepsWork xs ys n d d z k).news (h n d k)
