-- Product: the words of a report.
use Rattle.std.specs.Prelude.{ℕ, List, codes}
use Rattle.tva_base.specs.declared.packet.Class as class
use Rattle.tva_base.specs.declared.packet.Class.TheVariants.{Request, Regular, Legacy}
use Rattle.tva_base.specs.declared.packet.Cause.TheVariants.{NoCapability, Expired, BadHash, Superseded, OverN, CacheFull, UnknownNonce, PathFull, Malformed}
use Rattle.tva_base.specs.declared.packet.DropCause.TheVariants.{HopLimit, NoRoute, NoQueue, QueueFull}
use Rattle.tva_base.specs.declared.packet.Cause as cause
use Rattle.tva_base.specs.declared.packet.DropCause as drop_cause
use Rattle.tva_base.specs.declared.event.ShapeKind as shape
use Rattle.tva_base.specs.declared.event.ShapeKind.TheVariants as shapes
use Rattle.tva_base.specs.declared.event.WhatKind as what
use Rattle.tva_base.specs.declared.event.WhatKind.TheVariants as whats
use Rattle.tva_base.specs.declared.event.BackKind as back
use Rattle.tva_base.specs.declared.event.BackKind.TheVariants as backs

abbrev pub class_word : class.Class → List ℕ
class_word Request = codes "request"
class_word Regular = codes "regular"
class_word Legacy = codes "legacy"

abbrev pub cause_word : cause.Cause → List ℕ
cause_word NoCapability = codes "no-capability"
cause_word Expired = codes "expired"
cause_word BadHash = codes "bad-hash"
cause_word Superseded = codes "superseded"
cause_word OverN = codes "over-n"
cause_word CacheFull = codes "cache-full"
cause_word UnknownNonce = codes "unknown-nonce"
cause_word PathFull = codes "path-full"
cause_word Malformed = codes "malformed"

abbrev pub drop_word : drop_cause.DropCause → List ℕ
drop_word HopLimit = codes "hop-limit"
drop_word NoRoute = codes "no-route"
drop_word NoQueue = codes "no-queue"
drop_word QueueFull = codes "queue-full"

abbrev pub shape_word : shape.ShapeKind → List ℕ
shape_word shapes.Request = codes "request"
shape_word shapes.List = codes "list"
shape_word shapes.Nonce = codes "nonce"
shape_word shapes.Renewal = codes "renewal"
shape_word shapes.Legacy = codes "legacy"
shape_word shapes.Trace = codes "trace"

abbrev pub what_word : what.WhatKind → List ℕ
what_word whats.Stray = codes "stray"
what_word whats.Demoted = codes "demoted"
what_word whats.Request = codes "request"
what_word whats.Renewal = codes "renewal"
what_word whats.Regular = codes "regular"
what_word whats.Legacy = codes "legacy"

abbrev pub back_word : back.BackKind → List ℕ
back_word backs.Nothing = codes "-"
back_word backs.Notice = codes "notice"
back_word backs.Grant = codes "grant"
back_word backs.Ignored = codes "ignored"
