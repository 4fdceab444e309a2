-- Nodes that hand on what they have, and forget what memory need not hold: they stand for the same, and nothing that is
-- noted of them changes.
use Rattle.tva_net.proofs.Common.{◌≡◌, ℕ, ◌<◌, List, [], ◌∷◌, length, get_or, set, refl, sym, subst, ◌∙◌, ap, arith, inl, inr, AllByRecursion, AllZip, cases_eq, append-nil, get_or_default, get_or-set_other, get_or-set_same, length-set, AllZip-get_or, Input, Entry, Memory, Gone, NodeState, Stands, StandsFor, gone_after, gone_by, GotMail, GotMails, HandedOn, KeepsWork, HasNoNews, AreQuietElsewhere, Rises, AreNoted, IsNext, IsNoted, AllZip-long}
use Rattle.tva_net.proofs.Lists.{zip_more, zip_weaker}
use Rattle.tva_waiting.specs.declared.memory.Memory.TheVariants.{All as KeepsAll, Nothing}
use Rattle.tva_node.proofs.Forgets.{stands_without}
use Rattle.tva_net.proofs.Mails.{got_more, zip_set}
use Rattle.tva_run.proofs.Putting.{each-both}

-- for a log a node stands whatever memory holds of it
stands_with : (v : NodeState) (gone : Gone) (log : List Entry) → StandsFor (record v { gone = gone }) log → StandsFor v log
stands_with v gone log s = stands_without (record v { gone = gone }) v.gone log s

pub handed_same : (v : NodeState) → HandedOn v v
handed_same v = record { same = refl; news = λ h. h }

handed_more : (u v w : NodeState) → HandedOn u v → HandedOn v w → HandedOn u w
handed_more u v w a b = record {
  same = b.same ∙ ap (λ (x : NodeState). record x { gone = w.gone }) a.same;
  news = λ h. b.news (a.news h);
}

handed_mail : (v w : NodeState) → HandedOn v w → GotMail [] v w
handed_mail v w f = record {
  inbox = ap (λ (x : NodeState). x.inbox) f.same ∙ sym (append-nil v.inbox);
  stands = λ s. subst Stands (sym f.same) (s.0, stands_without v w.gone s.0 s.1);
  keeps = record {
    site = ap (λ (x : NodeState). x.site) f.same;
    horizon = ap (λ (x : NodeState). x.horizon) f.same;
    events = ap (λ (x : NodeState). x.events) f.same;
    sendings = ap (λ (x : NodeState). x.sendings) f.same;
    worked_to = ap (λ (x : NodeState). x.worked_to) f.same;
    keeps = ap (λ (x : NodeState). x.keeps) f.same;
    news = f.news;
  };
}

pub handed_keeps : (xs ys : List NodeState) → AllZip HandedOn xs ys → AllZip KeepsWork xs ys
handed_keeps xs ys h = zip_weaker HandedOn KeepsWork (λ v w f. (handed_mail v w f).keeps) xs ys h

pub got_handed : (xs ys : List NodeState) → AllZip HandedOn xs ys → GotMails (λ n. []) xs ys
got_handed xs ys h = record {
  count = AllZip-long HandedOn xs ys h;
  each = λ n d l. handed_mail (get_or xs n d) (get_or ys n d) (AllZip-get_or HandedOn xs ys n d d h l);
}

-- nodes handed something on, and then got mail
pub handed_then_got : (mail : ℕ → List Input) (xs ys zs : List NodeState) → AllZip HandedOn xs ys → GotMails mail ys zs → GotMails mail xs zs
handed_then_got mail xs ys zs f g = got_more (λ n. []) mail mail xs ys zs (λ n. refl) (got_handed xs ys f) g

-- what is noted of a node doesn't rest on what memory holds of it
handed_noted : (number : ℕ) (v w : NodeState) → HandedOn v w → IsNoted number v → IsNoted number w
handed_noted number v w f (next, same, is) = (
  next,
  same,
  subst (λ (x : NodeState). IsNext x next) (sym f.same) (λ log s. is log (stands_with v w.gone log s)),
)

pub noted_handed : (times : List ℕ) (xs ys : List NodeState) → AllZip HandedOn xs ys → AreNoted times xs → AreNoted times ys
noted_handed times xs ys f h = record {
  count = h.count ∙ sym (AllZip-long HandedOn xs ys f);
  each = λ n d l.
      let k : n < length xs = omega (arith, l, AllZip-long HandedOn xs ys f) in
      handed_noted (get_or times n 0) (get_or xs n d) (get_or ys n d) (AllZip-get_or HandedOn xs ys n d d f k) (h.each n d k);
}

-- ## nodes hand over what they sent, one after another

-- all is told and handed over, whatever memory gives up
told_by : (keeps : Memory) (v : NodeState) → HasNoNews (record v { gone = gone_by keeps v })
told_by KeepsAll v = record { told = refl; sent = refl }
told_by Nothing v = record { told = refl; sent = refl }

pub over_told : (v w : NodeState) → w ≡ record v { gone = gone_after v } → HasNoNews w
over_told v w e = subst HasNoNews (sym e) (told_by v.keeps v)

pub over_on : (v w : NodeState) → w ≡ record v { gone = gone_after v } → HandedOn v w
over_on v w e = record {
  same = e ∙ ap (λ (g : Gone). record v { gone = g }) (sym (ap (λ (x : NodeState). x.gone) e));
  news = λ h. over_told v w e;
}

pub handed_set : (nodes : List NodeState) (place : ℕ) (u w : NodeState) → place < length nodes → HandedOn (get_or nodes place u) w → AllZip HandedOn nodes (set nodes place w)
handed_set nodes place u w l f =
    zip_set HandedOn handed_same nodes place w (subst (λ (v : NodeState). HandedOn v w) (get_or_default nodes place u w l) f)

pub all_handed : (xs ys zs : List NodeState) → AllZip HandedOn xs ys → AllZip HandedOn ys zs → AllZip HandedOn xs zs
all_handed xs ys zs a b = zip_more HandedOn handed_more xs ys zs a b

-- the nodes whose turn comes are as they were, and the others have no news
pub record AreHanding (left : List ℕ) (olds news : List NodeState) : Type 0 where
  pub rises : Rises left
  pub same : AllByRecursion (λ place. (d : NodeState) → get_or news place d ≡ get_or olds place d) left
  pub quiet : AreQuietElsewhere news left

pub handing_first : (places : List ℕ) (nodes : List NodeState) → Rises places → AreQuietElsewhere nodes places → AreHanding places nodes nodes
handing_first places nodes r q = record { rises = r; same = each-any places; quiet = q }
  where
    each-any : (xs : List ℕ) → AllByRecursion (λ place. (d : NodeState) → get_or nodes place d ≡ get_or nodes place d) xs
    each-any [] = tt
    each-any (x ∷ xs) = ((λ d. refl), each-any xs)

-- one more hands over
pub handing_more : (place : ℕ) (left : List ℕ) (olds news : List NodeState) (w : NodeState) → place < length news → HasNoNews w → AreHanding (place ∷ left) olds news → AreHanding left olds (set news place w)
handing_more place left olds news w l told h = record {
  rises = h.rises.1;
  same = each-both (λ n. place < n) (λ n. (d : NodeState) → get_or news n d ≡ get_or olds n d) (λ n. (d : NodeState) → get_or (set news place w) n d ≡ get_or olds n d)
      (λ n late same d. get_or-set_other news place n w d (λ e. omega (arith, e, late)) ∙ same d) left h.rises.0 h.same.1;
  quiet = λ n d m out.
      let k : n < length news = omega (arith, m, length-set news place w) in
      elim (cases_eq n place) [
        | inl here ↦ subst HasNoNews (sym (ap (λ (i : ℕ). get_or (set news place w) i d) here ∙ get_or-set_same news place w d l)) told
        | inr there ↦ subst HasNoNews (sym (get_or-set_other news place n w d there)) (h.quiet n d k ((λ e. there (sym e)), out))
      ];
}
