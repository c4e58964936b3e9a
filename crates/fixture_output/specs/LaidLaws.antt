-- An output of zeros holds the empty mesh. Assumes nothing.
use Rattle.std.specs.Prelude.{◌≡◌, List, [], ◌++◌, ℕ, ◌+◌, ◌-◌, ◌%◌, ◌/◌, ◌*◌, ◌≤◌, length, replicate}
use Rattle.std.proofs.Common.{sym, ap, ◌∙◌, append-nil, div-add-mod', arith}
use Rattle.std.proofs.lemmas.List.{length-replicate, replicate-append-replicate}
use Rattle.slice_byte_lists.specs.Lists.{bytes_of_floats, bytes_of_words}
use Rattle.mesh_spec.specs.Mesh.{no_mesh}
use Rattle.fixture_output.specs.Laid.{byte_count, laid_as, Laid}

laid_zeros : (n : ℕ) → 8 ≤ n → replicate n 0 ≡ laid_as no_mesh n
unfolding laid_as bytes_of_floats bytes_of_words
laid_zeros n h =
    let gap = n - n % 4 - byte_count no_mesh in
    let all : 8 + gap + n % 4 ≡ n = omega (arith, div-add-mod' n 4) in
    sym
    (ap (λ (x : List ℕ). x ++ replicate (n % 4) 0) (append-nil (replicate 8 0 ++ replicate gap 0))
    ∙ ap (λ (x : List ℕ). x ++ replicate (n % 4) 0) (replicate-append-replicate 8 gap 0)
    ∙ replicate-append-replicate (8 + gap) (n % 4) 0
    ∙ ap (λ (k : ℕ). replicate k 0) all)

pub laid_none : (n : ℕ) → Laid no_mesh n (replicate n 0)
laid_none n = record { bytes = length-replicate n 0; words = tt; laid = λ h. laid_zeros n h }
