use Rattle.tva_transfer.proofs.Common.{◌≡◌, ℕ, ◌∷◌, [], ◌++◌, eqb, ◌&&◌, cond, true, false, length, sym, subst, ap, ◌∙◌, refl, Address, Upper, Filed, begun, first_segment, CourierData, StandsFor, call_with, courier_data, known, has_key}
use Rattle.tva_host.specs.Stands as host
use Rattle.tva_transfer.proofs.Compared.{has_key-changed}
use Rattle.tva_transfer.proofs.Due.{sound_filed, sound_undone}
use Rattle.tva_transfer.proofs.Standing.{stands_act, knows_filed}
use Rattle.tva_transfer.proofs.courier.Courier.file.Goals as goal

pub invariant_of-self-in-Ok : goal.invariant_of-self-in-Ok
invariant_of-self-in-Ok c =
    let ts = c.self.inside.transfers.items in
    let put : (d : Address) (p : ℕ) → has_key c.insert.new.self.keys d p ≡ cond (eqb c.args.dst.0 d.0 && eqb (length ts) p) true (has_key c.self.inside.due.keys d p) =
    λ d p. has_key-changed c.self.inside.due.keys c.insert.new.self.keys c.args.dst c.len-place.result true c.in_ok-insert.ensures.updates.0 d p
    ∙ ap (λ n. cond (eqb c.args.dst.0 d.0 && eqb n p) true (has_key c.self.inside.due.keys d p)) (c.len-place.ensures ∙ c.self.inside.transfers.ok.0) in
    let items : c.push_reserved.new.self.items ≡ ts ++ begun c.args.dst c.args.size c.args.segment ∷ [] =
    c.push_reserved.ensures.items ∙ rw (c.in_ok-reserve.ensures.items, c.begun-transfer.ensures) refl in
    rw items (sound_filed ts c.self.inside.due.keys c.insert.new.self.keys c.args.dst c.args.size c.args.segment c.requires.size.0 c.requires.size.1 c.requires.segment.1 c.self.invariant put)

pub invariant_of-self-in-Err : goal.invariant_of-self-in-Err
invariant_of-self-in-Err c =
    let ts = c.self.inside.transfers.items in
    let put : (d : Address) (p : ℕ) → has_key c.insert.new.self.keys d p ≡ cond (eqb c.args.dst.0 d.0 && eqb (length ts) p) true (has_key c.self.inside.due.keys d p) =
    λ d p. has_key-changed c.self.inside.due.keys c.insert.new.self.keys c.args.dst c.len-place.result true c.in_ok-insert.ensures.updates.0 d p
    ∙ ap (λ n. cond (eqb c.args.dst.0 d.0 && eqb n p) true (has_key c.self.inside.due.keys d p)) (c.len-place.ensures ∙ c.self.inside.transfers.ok.0) in
    let taken : (d : Address) (p : ℕ) → has_key c.remove.new.self.keys d p ≡ cond (eqb c.args.dst.0 d.0 && eqb (length ts) p) false (has_key c.insert.new.self.keys d p) =
    λ d p. has_key-changed c.insert.new.self.keys c.remove.new.self.keys c.args.dst c.len-place.result false c.remove.ensures.updates.0 d p
    ∙ ap (λ n. cond (eqb c.args.dst.0 d.0 && eqb n p) false (has_key c.insert.new.self.keys d p)) (c.len-place.ensures ∙ c.self.inside.transfers.ok.0) in
    rw c.in_ok-reserve.ensures.items (sound_undone ts c.self.inside.due.keys c.insert.new.self.keys c.remove.new.self.keys c.args.dst c.self.invariant put taken)

pub returns-in-Ok-clause-stands : goal.returns-in-Ok-clause-stands
returns-in-Ok-clause-stands c calls acts s =
    let now = subst (λ (v : CourierData). StandsFor v calls acts) (sym c.self.view_is) s in
    let items : c.push_reserved.new.self.items ≡ c.self.inside.transfers.items ++ begun c.args.dst c.args.size c.args.segment ∷ [] =
    c.push_reserved.ensures.items ∙ rw (c.in_ok-reserve.ensures.items, c.begun-transfer.ensures) refl in
    let segment : c.next_segment.result ≡ first_segment (known c.self.inside.host acts) c.args.dst c.args.size c.args.segment =
    c.next_segment.ensures.segment ∙ rw (c.len-place.ensures ∙ c.self.inside.transfers.ok.0 ∙ ap length now.files.transfers, c.begun-transfer.ensures) refl in
    let segment' = segment ∙ ap (λ (v : CourierData). first_segment (known v.host acts) c.args.dst c.args.size c.args.segment) c.self.view_is in
    let new : CourierData = courier_data c.intend_with.new.self c.push_reserved.new.self.items c.self.inside.nexts.entries in
    stands_act c.args.self.now new calls _ acts (Filed c.args.dst c.args.size c.args.segment) (c.in-Ok.ensures.same.1 ∙ ap (λ (v : CourierData). v.host.plan) c.self.view_is)
    (subst (λ (above : Upper). host.StandsFor c.intend_with.new.self (calls ++ call_with c.args.now.0 c.args.dst above ∷ [])) segment' (c.in-Ok.ensures.stands calls now.host))
    (knows_filed c.args.self.now.host.plan.address c.args.self.now new (known c.args.self.now.host acts) c.args.dst c.args.size c.args.segment (items ∙ ap (λ (v : CourierData). v.transfers ++ begun c.args.dst c.args.size c.args.segment ∷ []) c.self.view_is) (ap (λ (v : CourierData). v.nexts) c.self.view_is) s.files)
