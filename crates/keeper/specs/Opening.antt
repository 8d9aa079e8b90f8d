-- What the program holds once it has opened its store.
use Rattle.std.specs.Prelude.{◌≡◌, Result, Ok, Err, List, ℕ, length, replicate}
use Rattle.sha256.specs.Hash.{sha256}
use Rattle.store.specs.Texts.{text_read}
use Rattle.memory.specs.Memory.{leaves_put, digests_put, loaded_as}
use Rattle.keeper.specs.declared.loading.Shut.{Shut}

-- so many leaves, which some text loads to
pub record HeldFrom (k : ℕ) (leaves nodes leaves' nodes' : List ℕ) : Type 0 where
  pub text : List ℕ
  pub loaded : loaded_as text leaves nodes ≡ Ok k
  pub now_leaves : leaves' ≡ leaves_put (text_read text).rows 0 leaves
  pub now_nodes : nodes' ≡ digests_put sha256 (text_read text).rows 0 (replicate (length nodes) 0)

-- or nothing, and memory is as it was
abbrev pub OpenedAs : Result ℕ Shut → (leaves nodes leaves' nodes' : List ℕ) → Type 0
OpenedAs (Ok k) l n l' n' = HeldFrom k l n l' n'
OpenedAs (Err e) l n l' n' = (l' ≡ l) × (n' ≡ n)
