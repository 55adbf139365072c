-- No refusal has the number 0 of a call that is accepted.
--
-- Assumes nothing.
use Rattle.std.specs.Prelude.{◌≡◌}
use Rattle.std.proofs.Common.{arith}
use Rattle.refusals.specs.AnswerNumbers.{open_refusal, allocate_refusal, not_named_number, release_refusal, not_resized_number, resize_refusal, list_refusal}
use Rattle.refusals.specs.declared.OpenRefusal.{OpenRefusal}
use Rattle.refusals.specs.declared.AllocateRefusal.{AllocateRefusal}
use Rattle.refusals.specs.declared.NotNamed.{NotNamed}
use Rattle.refusals.specs.declared.ReleaseRefusal.{ReleaseRefusal}
use Rattle.refusals.specs.declared.NotResized.{NotResized}
use Rattle.refusals.specs.declared.ResizeRefusal.{ResizeRefusal}
use Rattle.refusals.specs.declared.ListRefusal.{ListRefusal}
use Rattle.refusals.specs.declared.OpenRefusal.TheVariants as opening
use Rattle.refusals.specs.declared.AllocateRefusal.TheVariants as allocating
use Rattle.refusals.specs.declared.NotNamed.TheVariants as unnamed
use Rattle.refusals.specs.declared.ReleaseRefusal.TheVariants as releasing
use Rattle.refusals.specs.declared.NotResized.TheVariants as unsized
use Rattle.refusals.specs.declared.ResizeRefusal.TheVariants as resizing
use Rattle.refusals.specs.declared.ListRefusal.TheVariants as listing

pub open_some : (r : OpenRefusal) → open_refusal r ≡ 0 → ⊥
open_some opening.OutOfRange e = omega (arith, e)

pub allocate_some : (r : AllocateRefusal) → allocate_refusal r ≡ 0 → ⊥
allocate_some allocating.NotSound e = omega (arith, e)
allocate_some allocating.UnknownType e = omega (arith, e)
allocate_some allocating.NoBytes e = omega (arith, e)
allocate_some allocating.BeyondLimit e = omega (arith, e)
allocate_some allocating.TableFull e = omega (arith, e)

pub not_named_some : (why : NotNamed) → not_named_number why ≡ 0 → ⊥
not_named_some unnamed.BeyondEnd e = omega (arith, e)
not_named_some unnamed.InFree e = omega (arith, e)
not_named_some unnamed.InsideLive e = omega (arith, e)
not_named_some unnamed.OtherSize e = omega (arith, e)

pub release_some : (r : ReleaseRefusal) → release_refusal r ≡ 0 → ⊥
release_some releasing.NotSound e = omega (arith, e)
release_some (releasing.NotNamed why) e = not_named_some why e
release_some releasing.TableFull e = omega (arith, e)

pub not_resized_some : (why : NotResized) → not_resized_number why ≡ 0 → ⊥
not_resized_some unsized.NoRoomBehind e = omega (arith, e)
not_resized_some unsized.BeyondLimit e = omega (arith, e)
not_resized_some unsized.TooLittleLeft e = omega (arith, e)

pub resize_some : (r : ResizeRefusal) → resize_refusal r ≡ 0 → ⊥
resize_some resizing.NotSound e = omega (arith, e)
resize_some resizing.NoBytes e = omega (arith, e)
resize_some (resizing.NotNamed why) e = not_named_some why e
resize_some (resizing.NotResized why) e = not_resized_some why e
resize_some resizing.TableFull e = omega (arith, e)

pub list_some : (r : ListRefusal) → list_refusal r ≡ 0 → ⊥
list_some listing.NotSound e = omega (arith, e)
list_some listing.UnknownManager e = omega (arith, e)
list_some listing.SliceTooShort e = omega (arith, e)
