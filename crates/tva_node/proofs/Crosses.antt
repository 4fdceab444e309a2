-- A node may be moved to another thread and shared with it.
use Rattle.tva_node.proofs.Common.{crosses}
use denote.Param.Send.{IsSend, IsSync, sendable}
use Rattle.tva_base.proofs.event.Event.TheSendSync as Event
use Rattle.tva_run.proofs.kinds.Input.TheSendSync as Input
use Rattle.tva_run.proofs.kinds.Sending.TheSendSync as Sending
use Rattle.tva_node.proofs.links.Links.TheSendSync as Links
use Rattle.tva_node.proofs.role.Role.TheSendSync as Role
use Rattle.tva_waiting.proofs.flights.Flight.TheSendSync as Flight
use Rattle.tva_waiting.proofs.memory.Memory.TheSendSync as Memory
use Rattle.tva_waiting.proofs.waiting.Waiting.TheSendSync as Waiting
use Rattle.tva_waiting.specs.contracts.inbox.Inbox as Inbox
use Rattle.tva_node.specs.contracts.outbox.Outbox as Outbox
use Rattle.tva_node.specs.contracts.node.Node as Node

ruleset sent_send = (Flight.the_send, Memory.the_send, Memory.the_field_send, Sending.the_send, Sending.the_field_send)

ruleset sent_sync = (Flight.the_sync, Memory.the_sync, Memory.the_field_sync, Sending.the_sync, Sending.the_field_sync)

pub outbox_send : IsSend Outbox.the_row
outbox_send = search (sendable, crosses, sent_send) depth 60 fits 4000

pub outbox_sync : IsSync Outbox.the_row
outbox_sync = search (sendable, crosses, sent_sync) depth 60 fits 4000

ruleset given_send = (Input.the_send, Input.the_field_send)

ruleset given_sync = (Input.the_sync, Input.the_field_sync)

pub inbox_send : IsSend Inbox.the_row
inbox_send = search (sendable, crosses, given_send) depth 60 fits 4000

pub inbox_sync : IsSync Inbox.the_row
inbox_sync = search (sendable, crosses, given_sync) depth 60 fits 4000

ruleset held_send = (Event.the_send, Event.the_field_send, Links.the_send, Role.the_send, Role.the_field_send, Waiting.the_send, inbox_send, outbox_send)

ruleset held_sync = (Event.the_sync, Event.the_field_sync, Links.the_sync, Role.the_sync, Role.the_field_sync, Waiting.the_sync, inbox_sync, outbox_sync)

pub node_send : IsSend Node.the_row
node_send = search (sendable, crosses, held_send) depth 60 fits 4000

pub node_sync : IsSync Node.the_row
node_sync = search (sendable, crosses, held_sync) depth 60 fits 4000
