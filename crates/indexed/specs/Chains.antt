-- Which chain a set is in, where heads and links lead, and what runs share.
use Rattle.std.specs.Prelude.{◌≡◌, ℕ, zero, suc, ◌-◌, ◌<◌, ◌≤◌, cond, List, length, ◌==◌, slice_index, slice_index_or, Option, Some, None}
use mathlib.Core.List.{Memᴰ}
use Rattle.std.specs.Int.Count.{count_trailing_zeros}
use Rattle.atoms.specs.Atoms.{bits, index, set_of, width}
use Rattle.atoms.specs.Sets.{◌⊆◌, has}
use Rattle.atoms.specs.declared.Atom.{Atom}
use Rattle.atoms.specs.declared.AtomSet.{AtomSet}
use Rattle.indexed.specs.declared.record.ShelfRecord.{ShelfRecord}

-- the chain of a set: its least atom, or past all atoms where it is empty
abbrev pub chain_of : AtomSet → ℕ
chain_of s = count_trailing_zeros width (bits s)

-- the chain of a least atom, or of none
abbrev pub slot_of : Option Atom → ℕ
slot_of (Some a) = index a
slot_of None = width

-- what is read past the end
abbrev pub blank : ShelfRecord
blank = record { set = set_of 0; common = set_of 0; link = 0; skip = 0 }

-- the set at a position, its chain, its link, and its run
abbrev pub set_at : List ShelfRecord → ℕ → AtomSet
set_at rs p = (slice_index_or rs p blank).set

abbrev pub chain_at : List ShelfRecord → ℕ → ℕ
chain_at rs p = chain_of (set_at rs p)

abbrev pub link_at : List ShelfRecord → ℕ → ℕ
link_at rs p = (slice_index_or rs p blank).link

abbrev pub common_at : List ShelfRecord → ℕ → AtomSet
common_at rs p = (slice_index_or rs p blank).common

abbrev pub skip_at : List ShelfRecord → ℕ → ℕ
skip_at rs p = (slice_index_or rs p blank).skip

-- the link to the last of the first `n` records that is in the chain `c`: one more than its position, or 0 if there is none
unfoldable pub last : List ShelfRecord → ℕ → ℕ → ℕ
last rs c zero = 0
last rs c (suc n) = cond (chain_at rs n == c) (suc n) (last rs c n)

-- each head leads to the last set of its chain
abbrev pub HeadsLead : List ℕ → List ShelfRecord → Type 0
HeadsLead hs rs = (c : ℕ) → c ≤ width → slice_index hs c ≡ last rs c (length rs)

-- each record leads to the last set before it that is in its chain
abbrev pub LinksLead : List ShelfRecord → Type 0
LinksLead rs = (p : ℕ) → p < length rs → link_at rs p ≡ last rs (chain_at rs p) p

-- the sets of the chain `c` from the link `v` on, up to the position `n`, have all atoms of `k`
pub record Shared (rs : List ShelfRecord) (c n : ℕ) (k : AtomSet) (v : ℕ) : Type 0 where
  pub low : v ≤ n
  pub on : 0 < v → chain_at rs (v - 1) ≡ c
  pub all : (p : ℕ) → v ≤ p → p < n → chain_at rs p ≡ c → bits k ⊆ bits (set_at rs p)

-- the run of each record is followed back: to a set of its chain, or to none
abbrev pub SkipsFall : List ShelfRecord → Type 0
SkipsFall rs = (p : ℕ) → p < length rs → skip_at rs p ≤ p

abbrev pub SkipsLead : List ShelfRecord → Type 0
SkipsLead rs = (p : ℕ) → p < length rs → 0 < skip_at rs p → chain_at rs (skip_at rs p - 1) ≡ chain_at rs p

-- a common atom of a record, and a set of its run, its own set among them
pub record InRun (rs : List ShelfRecord) : Type 0 where
  pub end : ℕ
  pub place : ℕ
  pub atom : ℕ
  pub within : end < length rs
  pub from : skip_at rs end ≤ place
  pub upto : place ≤ end
  pub on : chain_at rs place ≡ chain_at rs end
  pub common : has (bits (common_at rs end)) atom

-- all sets of a run have its common atoms
abbrev pub RunsShare : List ShelfRecord → Type 0
RunsShare rs = (w : InRun rs) → has (bits (set_at rs w.place)) w.atom

-- no set of the list that is in the chain `c` is contained in `s`
abbrev pub NoneIn : List AtomSet → ℕ → AtomSet → Type 0
NoneIn ts c s = (t : AtomSet) → Memᴰ t ts → chain_of t ≡ c → bits t ⊆ bits s → ⊥
