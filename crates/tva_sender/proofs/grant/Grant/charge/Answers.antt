use Rattle.tva_sender.proofs.Common.{◌*◌, ◌≤◌, arith}
use Rattle.tva_sender.proofs.Bounds.{le-mul_some, credit_small, life_near}
use Rattle.tva_sender.proofs.grant.Grant.charge.Goals as goal

pub returns-clause-near : goal.returns-clause-near
returns-clause-near c =
    let some : 1 ≤ c.args.self.now.rights.n = omega (arith, c.requires.room, c.requires.bytes.0) in
    let least = c.credit.ensures.least (c.args.bytes * c.args.self.now.rights.t * 1000000000) (le-mul_some (c.args.bytes * c.args.self.now.rights.t * 1000000000) c.args.self.now.rights.n some) in
    let small = credit_small c.args.bytes c.args.self.now.rights.t c.credit.result c.requires.near.rights.1 least in
    record {
      asked = c.requires.near.asked;
      life = rw (c.max.ensures, c.from-2.ensures, c.from-3.ensures, c.from.ensures) (life_near c.args.now.0 c.args.self.now.life c.args.self.now.used c.args.bytes c.credit.result c.requires.near.life small);
      used = rw c.from.ensures c.requires.room;
      rights = c.requires.near.rights;
    }
