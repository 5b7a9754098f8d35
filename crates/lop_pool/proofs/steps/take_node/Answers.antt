use Rattle.std.proofs.Common.{◌∙◌, sym, ap, subst}
use Rattle.std.proofs.lemmas.Bool.{false≢true}
use Rattle.lop_leaf.specs.Ticket.{TicketFields}
use Rattle.lop_core.specs.Core.{CoreFields}
use Rattle.lop_pool.proofs.HoldingLemmas.{after_take, handed_out, take_size, untaken}
use Rattle.lop_pool.specs.Marks.{GrowsWhole}
use Rattle.lop_pool.proofs.MarkLemmas.{whole_same, whole_take}
use Rattle.lop_pool.proofs.steps.take_node.Goals as goal

pub returns-in-Node-clause-fits : goal.returns-in-Node-clause-fits
returns-in-Node-clause-fits g c = record { ticket = ap (λ (t : TicketFields). t.size) c.in-Node.ensures.step.2; found = c.requires.fits.found }

pub returns-in-Node-clause-grown : goal.returns-in-Node-clause-grown
returns-in-Node-clause-grown g c = (after_take c.args.core.now c.take.new.self c.args.parcel.now.ticket c.take.new.into c.args.number c.take.result c.take.ensures.step).grown

pub returns-in-Node-clause-handed : goal.returns-in-Node-clause-handed
returns-in-Node-clause-handed g c = λ _.
    handed_out c.args.core.now c.take.new.self c.args.number c.take.new.into c.take.ensures.before c.take.ensures.after c.in-Node.ensures.step.0 c.in-Node.ensures.step.1 c.in-Node.ensures.on_node.is_out c.in-Node.ensures.on_node.is_of

pub returns-in-Node-clause-whole : goal.returns-in-Node-clause-whole
returns-in-Node-clause-whole g c = λ mark. whole_take c.args.core.now.problem mark c.args.number c.take.new.into.node c.args.core.now.journal c.take.new.self.journal (ap (λ (x : CoreFields). x.journal) c.in-Node.ensures.step.1)

pub returns-in_default : goal.returns-in_default
returns-in_default g c =
    let left = after_take c.args.core.now c.take.new.self c.args.parcel.now.ticket c.take.new.into c.args.number c.take.result c.take.ensures.step in
    let same = untaken c.args.core.now c.take.new.self c.args.parcel.now.ticket c.take.new.into c.args.number c.take.result c.take.ensures.step c.in_default.not-Node in
    record {
      fits = record {
        ticket = take_size c.args.core.now c.take.new.self c.args.parcel.now.ticket c.take.new.into c.args.number c.take.result c.take.ensures.step c.requires.fits.ticket ∙ c.requires.fits.ticket;
        found = c.requires.fits.found;
      };
      same_problem = left.problem;
      grown = left.grown;
      whole = λ mark. subst (λ (x : CoreFields). GrowsWhole c.args.core.now.problem mark c.args.number c.args.core.now.journal x.journal) (sym same) (whole_same c.args.core.now.problem mark c.args.number c.args.core.now.journal);
      best = left.best;
      history = c.take.ensures.after;
      handed = λ e. absurd (false≢true e);
      sound = λ e. absurd (false≢true e);
      none = λ _. ap (λ (x : CoreFields). x.state) same;
    }
