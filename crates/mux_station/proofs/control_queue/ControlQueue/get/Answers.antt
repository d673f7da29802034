-- The frame of the index is read where it begins.
use Rattle.std.specs.Prelude.{Some, option_map, refl}
use Rattle.std.proofs.Common.{◌∙◌, ap}
use Rattle.mux_frame.specs.Frames.{frame_of}
use Rattle.mux_station.proofs.queues.ControlQueues.{seen_at, has_front, it_is, none_is}
use Rattle.mux_station.proofs.control_queue.ControlQueue.get.Goals as goal

pub returns-in_err-place : goal.returns-in_err-place
returns-in_err-place c =
    let i = c.self.inside in (
      (refl, λ _. tt, c.self.view_is),
      record {
        frame =
            ap (option_map frame_of) c.from_residual.ensures
            ∙ (none_is i.octets.items i.count c.self.invariant.spelled c.args.index c.in_err-place.ensures.none ∙ seen_at c.args.self.now i.octets.items i.count i.octets.capacity c.self.view_is c.args.index);
        after = tt;
      },
    )

pub frame_at-self-inside-requires : goal.frame_at-self-inside-requires
frame_at-self-inside-requires c =
    let i = c.self.inside in
    has_front i.octets.items i.count c.self.invariant.spelled c.args.index c.in_ok-place.place c.in_ok-place.ensures.place

pub returns : goal.returns
returns c =
    let i = c.self.inside in (
      (refl, λ _. tt, c.self.view_is),
      record {
        frame =
            ap Some (c.view.ensures ∙ c.frame_at-self-inside.ensures)
            ∙ (it_is i.octets.items i.count c.self.invariant.spelled c.args.index c.in_ok-place.place c.in_ok-place.ensures.place ∙ seen_at c.args.self.now i.octets.items i.count i.octets.capacity c.self.view_is c.args.index);
        after = tt;
      },
    )
