-- The machine value of a `Held`, and what it owns. Assumes `Logic`.
use Rattle.std.proofs.Common.{◌≡◌, ℕ, List, [], ◌∷◌, ◌++◌, refl, subst}
use Rattle.std.specs.Prelude.{Option, Some, None}
use seplogic.Ra.Ura.{Ura}
use mir.Raw.{raw as bare}
use mir.Val.{Val, vstruct, vcons, vnil, of_list}
use base.Fraction.{full_share}
use base.Logic.{SProp, via, never, fst∗, snd∗, guard_i}
use types.Logic.{Logic, sem}
use types.Kit.{Item, Goal, Seq, Step, step, ‵, given, ◌$◌, drop, fsplit, fjoin, fpick, fpack, feq_i, feq_l, use1, learn}
use contract.Monad.{fact_use}
use denote.RattleType.{RattleType, Valss}
use denote.Builtin.{RawPtr}
use denote.Memory.{lone}
use denote.RawPtr.{Ptr, block_ptr, null_ptr, ptr_val, in_a_block, lies_at, Testable}
use denote.Steps.{nothing}
use denote.Struct.Struct.{within}
use denote.Struct.Owning.{shape}
use Rattle.std.specs.contracts.impls.GlobalAllocator.TheImpl.{ghosts}
use Rattle.std.specs.declared.alloc.Global.{Global}
use Rattle.std.proofs.GlobalToken.{dealloc_token-Testable}
use Rattle.gq_world.specs.World_between_turns.{World}
use Rattle.gq_world.specs.contracts.world.World.{the_row as world_row}
use Rattle.gq_library.specs.Held_world.{boxed, held_owns}
use Rattle.gq_library.specs.contracts.held.WorldHandle as held

abbrev pub one : Val → Val
one v = vstruct (vcons v vnil)

abbrev pub Held : RattleType
Held = held.the_row

module _ {M : Type 1} {𝓤 : Ura M} {𝓛 : Logic 𝓤} {K : Type 0} {Γ : List (Item 𝓤)} {G : Goal 𝓤 𝓛.H} where
  pub held_in : K → (p : Ptr) (w : Option World)
      → Step K 𝓛 (‵ (Held.own_val (record { at = p; world = w }) (one (ptr_val p) ∷ [])) ∷ Γ) G (‵ (held_owns p w) ∷ Γ) G
  held_in t p w = step (λ s. let v : Val = one (ptr_val p) in
      nothing t $ feq_i t (List Val) (ptr_val p ∷ []) (ptr_val p ∷ []) refl $ fjoin t $ feq_i t (List Val) (v ∷ []) (v ∷ []) refl $ fjoin t $
      fpack t (Valss (RawPtr ∷ [])) (within (shape held.the_type) (p, tt) (v ∷ [])) (ptr_val p ∷ [], tt) $ fjoin t $ s)

  pub held_out : K → (d : Held.Denot) (vs : List Val)
      → (vs ≡ one (ptr_val d.at) ∷ [] → Seq K 𝓛 (‵ (held_owns d.at d.world) ∷ Γ) G)
      → Seq K 𝓛 (‵ (Held.own_val d vs) ∷ Γ) G
  held_out t d vs k =
      fsplit t $ fpick t (λ vss. fsplit t $ feq_l t (λ ev. fsplit t $ feq_l t (λ ep. drop t $
      k (subst (λ (ps : List Val). vs ≡ vstruct (of_list (ps ++ [])) ∷ []) ep ev))))

  pub either_held : K → (a : Global) (p : Ptr) (w : Option World) → (p ≡ null_ptr → w ≡ None → Seq K 𝓛 Γ G)
      → ((b o : ℕ) (x : World) → p ≡ block_ptr b o → w ≡ Some x → Testable (block_ptr b o) → Seq K 𝓛 (‵ (boxed (block_ptr b o) x a) ∷ Γ) G)
      → Seq K 𝓛 (‵ (held_owns p w) ∷ Γ) G
  either_held t a p None none one = feq_l t (λ e. none e refl)
  either_held t a p (Some x) none one = fpick t (λ _.
      let freed : Ptr → SProp 𝓤 = λ q. sem 𝓛 (ghosts.dealloc_token a (bare (lone world_row.mir)) q) in
      in_a_block t p (λ q. boxed q x a) (fst∗ 𝓤 (never 𝓤) (freed null_ptr)) (λ b o e.
      let B = sem 𝓛 (boxed (block_ptr b o) x a) in
      use1 𝓛 (given (Testable (block_ptr b o)) (‵ (boxed (block_ptr b o) x a)))
      (fact_use 𝓤 (Testable (block_ptr b o)) (via 𝓤 _ (snd∗ 𝓤 (sem 𝓛 (lies_at world_row full_share (block_ptr b o) x)) (freed (block_ptr b o)))
      (dealloc_token-Testable 𝓛 a (bare (lone world_row.mir)) (block_ptr b o))) (guard_i 𝓤 (Testable (block_ptr b o)) B)) $
      learn t (λ u. one b o x e refl u)))
