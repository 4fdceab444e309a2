-- What several proofs of this crate name, by where it stands.
pub use Rattle.std.proofs.Common.{◌≡◌, ◌∙◌, sym, ap, refl, ℕ, List, [], ◌∷◌, ◌++◌, append_assoc, inl, inr, zero, suc, ◌+◌, ◌/◌, ◌%◌, ◌<◌, ◌≤◌, Bool, true, false, cond, map, Option, Some, None, arith, ◌^◌, length, length-append}
pub use Rattle.std.proofs.lemmas.List.Elements.{All-append, All-cons, All-head, All-nil, All-tail}
pub use Rattle.std.specs.List.{join_with_byte, All, AllByRecursion, list_all}
pub use Rattle.std.specs.Option.{option_map_or}
pub use Rattle.std.specs.Prelude.{◌==◌, ◌&&◌, ◌||◌, nat_le, codes, decimal, slice_get}
pub use Rattle.tva_base.specs.Printable.{IsPrintable, IsLine}
pub use Rattle.tva_base.specs.declared.event.BackKind.{BackKind}
pub use Rattle.tva_base.specs.declared.event.DataLine.{DataLine}
pub use Rattle.tva_base.specs.declared.event.Event.{Event}
pub use Rattle.tva_base.specs.declared.event.Happened.{Happened}
pub use Rattle.tva_base.specs.declared.event.Happened.TheVariants.{Arrived, Sent, Received, Started, Ticked}
pub use Rattle.tva_base.specs.declared.event.ReplyLine.{ReplyLine}
pub use Rattle.tva_base.specs.declared.event.ShapeKind.{ShapeKind}
pub use Rattle.tva_base.specs.declared.event.Totals.{Totals}
pub use Rattle.tva_base.specs.declared.event.WhatKind.{WhatKind}
pub use Rattle.tva_base.specs.declared.packet.Cause.{Cause}
pub use Rattle.tva_base.specs.declared.packet.Class.{Class}
pub use Rattle.tva_base.specs.declared.packet.DropCause.{DropCause}
pub use Rattle.tva_base.specs.declared.packet.Outcome.{Outcome}
pub use Rattle.tva_base.specs.declared.packet.Outcome.TheVariants.{Queued, Dropped}
pub use Rattle.tva_base.specs.declared.packet.PacketId.{PacketId}
pub use Rattle.tva_base.specs.declared.plan.LinkPlan.{LinkPlan}
pub use Rattle.tva_lines.specs.Lines.{name_of_node, name_before, name_behind, id_word, from_word, outcome_word, cause_or_dash, reply_word, range_words, happened_words, text_of_event, text_of_totals, FitsEvent, FitsHappened, FitsId, FitsRange, FitsReply, FitsTotals}
pub use Rattle.tva_lines.specs.Words.{class_word, cause_word, drop_word, shape_word, what_word, back_word}
pub use Rattle.tva_plan.specs.Names.{is_name_byte, name_at}
pub use Rattle.tva_plan.specs.Valid.{IsConfig, IsName}
pub use Rattle.tva_plan.specs.declared.config.Config.{Config}
pub use Rattle.tva_plan.specs.declared.config.NodePlan.{NodePlan}
