use Rattle.promise.proofs.Kept.{promises, counts}
use Rattle.promise.proofs.Outside.{outside}
use Rattle.promise.proofs.Pinned.{pinned}
use Rattle.promise.proofs.promises_hold.Goals as goal

pub returns : goal.returns
returns c =
    record {
      never_twice = λ m ok g n es t r. (promises m ok g n es t r).never_twice;
      seals = λ m ok g n es t r. (promises m ok g n es t r).every_seal_that_can_be_is_taken;
      opens = λ m ok g n es t r. (promises m ok g n es t r).opens_exactly_the_right_frames;
      answers = λ m ok g n es t r. (promises m ok g n es t r).numbers_costs_readings;
      counts = counts;
      outside = outside;
      pinned = pinned;
    }
