use Rattle.std.proofs.Common.{length, refl}
use Rattle.std.proofs.lemmas.Option.{slice_get_read}
use Rattle.station_rows.proofs.threads.visit_in_threads.Goals as goal

pub map_vec-requires-after_bounds : goal.map_vec-requires-after_bounds
map_vec-requires-after_bounds g c κs within i x low at =
    let ps = c.in_ok-passes.passes.items in
    (c.in_ok-passes.ensures.1 i x (slice_get_read ps (length ps) i x refl low at)).of_board
