-- What several proofs of this crate name, by where it stands.
pub use Rattle.std.proofs.Common.{List, [], ◌∷◌, ◌++◌, ℕ, ◌≤◌, sym, subst}
pub use Rattle.std.specs.List.{AllByRecursion}
pub use Rattle.tva_node.specs.States.{NodeState, Stands, FitsRow}
