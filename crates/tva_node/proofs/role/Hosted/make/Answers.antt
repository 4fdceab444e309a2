use Rattle.tva_node.proofs.Common.{◌≡◌, ◌∷◌, [], ◌++◌, Option, sym, subst, append-nil, cons_option, option_map, IfOk, Made, Call, Filed, first_segment, segment_due, call_with, known, sent_with, act_of_row, call_of_row}
use Rattle.tva_transfer.specs.Files.{Ticked}
use Rattle.tva_transfer.specs.Stands.{StandsFor}
use Rattle.tva_rows.specs.declared.rows.RowWhat.{RowWhat}
use Rattle.tva_rows.specs.declared.rows.RowWhat.TheVariants as rows
use Rattle.tva_node.proofs.Rows.{if_both, segment_call, tick_call}
use Rattle.tva_node.proofs.role.Hosted.make.Goals as goal

pub returns-in_ok-intend-in-Send-clause-stands : goal.returns-in_ok-intend-in-Send-clause-stands
returns-in_ok-intend-in-Send-clause-stands c = λ calls acts h. rw (c.in-Send.is, append-nil acts) (c.in_ok-intend-in-Send.ensures.stands calls acts h)

pub returns-in-Inject-clause-stands : goal.returns-in-Inject-clause-stands
returns-in-Inject-clause-stands c = λ calls acts h. rw (c.in-Inject.is, append-nil acts) (c.inject.ensures.stands calls acts h)

pub returns-in_ok-file-in-File-clause-stands : goal.returns-in_ok-file-in-File-clause-stands
returns-in_ok-file-in-File-clause-stands c = λ calls acts h.
    let dst = c.in-File.dst in
    let above = first_segment (known c.args.self.now.courier.host acts) dst c.in-File.size c.in-File.segment in
    subst (λ (w : RowWhat). StandsFor c.file.new.self (calls ++ call_of_row c.args.now.0 w c.in_ok-file-in-File.field-0.packet ∷ []) (acts ++ cons_option (act_of_row w) [])) (sym c.in-File.is)
    (subst (λ (call : Call). StandsFor c.file.new.self (calls ++ call ∷ []) (acts ++ Filed dst c.in-File.size c.in-File.segment ∷ []))
    (sym (segment_call c.args.self.now.courier.host calls c.args.now.0 dst above c.in_ok-file-in-File.field-0 (c.in_ok-file-in-File.ensures.made calls acts h))) (c.in_ok-file-in-File.ensures.stands calls acts h))

pub returns-in-Tick-clause-made : goal.returns-in-Tick-clause-made
returns-in-Tick-clause-made c = λ calls acts h. rw c.in-Tick.is (c.tick.ensures.made calls acts h)

pub returns-in-Tick-clause-stands : goal.returns-in-Tick-clause-stands
returns-in-Tick-clause-stands c = λ calls acts h.
    let host = c.args.self.now.courier.host in
    let new = c.tick.new.self in
    let now = c.args.now.0 in
    let dst = c.in-Tick.dst in
    let due = segment_due (known host acts) dst in
    subst (λ (w : RowWhat). IfOk c.tick.result (λ made. StandsFor new (calls ++ cons_option (option_map (λ (m : Made). call_of_row now w m.packet) made) []) (acts ++ cons_option (act_of_row w) []))) (sym c.in-Tick.is)
    (if_both (λ (made : Option Made). made ≡ option_map (sent_with host calls now dst) due)
    (λ made. StandsFor new (calls ++ cons_option (option_map (call_with now dst) due) []) (acts ++ Ticked dst ∷ []))
    (λ (made : Option Made). StandsFor new (calls ++ cons_option (option_map (λ (m : Made). call_of_row now (rows.Tick dst) m.packet) made) []) (acts ++ Ticked dst ∷ []))
    c.tick.result
    (λ made e s. subst (λ (x : Option Call). StandsFor new (calls ++ cons_option x []) (acts ++ Ticked dst ∷ [])) (sym (tick_call host calls now dst due made e)) s)
    (c.tick.ensures.made calls acts h) (c.tick.ensures.stands calls acts h))
