-- docs/SCOPE.md, "Lists of calls": what holds of a mesh and of its record's box after any list of appends, flips and transforms, refused ones included.
-- The calls are those that the contracts of `append`, `flip` and `transform` cite. Assumes nothing.
-- Counts beyond the slices need no exception, since check 8 refuses then.
use Rattle.std.specs.Prelude.{◌≡◌, ◌∷◌}
use Rattle.mesh_balance_spec.specs.Count.{EdgesBalance}
use Rattle.mesh_spec.specs.Closed.{NoneTwice, AllThere, Closed, Proper}
use Rattle.mesh_spec.specs.EdgeLaws.{append_edges, flip_edges}
use Rattle.mesh_spec.proofs.EdgeLawsHeld.{transform_edges}
use Rattle.mesh_spec.proofs.ClosedLawsHeld.{append_closed, flip_closed, transform_closed}
use Rattle.mesh_check_transform.specs.Transform.{transformed}
use Rattle.mesh_edit_law.specs.Lists.{KeptByLists}
use Rattle.mesh_edit_law.proofs.ListsLaws.{all_bring, all_there_kept, by_list, none_twice_kept, right_kept}

-- demand 3, the lists, and the box
pub kept_by_lists : KeptByLists
kept_by_lists = record {
  closed = by_list Closed (record { appended = append_closed; flipped = flip_closed; transformed = transform_closed });
  edges_balance = by_list (λ m. EdgesBalance m.triangles) (record { appended = append_edges; flipped = flip_edges; transformed = transform_edges });
  none_twice = none_twice_kept;
  all_there = all_there_kept;
  proper = λ s calls p b. record {
    none_twice = none_twice_kept s calls p.none_twice (all_bring Proper NoneTwice (λ m q. q.none_twice) calls s b);
    all_there = all_there_kept s calls p.all_there (all_bring Proper AllThere (λ m q. q.all_there) calls s b);
  };
  right_box = right_kept;
}
