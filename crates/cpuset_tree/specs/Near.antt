-- Sets that one CPU tells apart, while it goes offline or comes online. No public clause cites this module.
use Rattle.std.specs.Prelude.{◌≡◌, ◌⊎◌, ℕ, Bool, false, ◌==◌, if◌then◌else◌, Some}
use Rattle.std.specs.FinSet as set
use Rattle.slab.specs.Slab.{Slab, get}
use Rattle.cpu_set.specs.Ids.{Ids}
use Rattle.cpuset_tree.specs.declared.groups.Group.{Group}
use Rattle.cpuset_tree.specs.declared.groups.Cgroup.{Cgroup}
use Rattle.cpuset_tree.specs.declared.groups.Resource.TheVariants.{Cpus}
use Rattle.cpuset_tree.specs.Effective.{granted}
use Rattle.cpuset_tree.specs.Kept.{effective_kept, with_effective, IsGranted}

-- two sets agree on each number but this one
abbrev pub AgreeBut : ℕ → Ids → Ids → Type 0
AgreeBut cpu s t = (q : ℕ) → (q == cpu) ≡ false → set.contains s q ≡ set.contains t q

-- a set has this number alone
abbrev pub HasOnly : ℕ → Ids → Type 0
HasOnly cpu s = (q : ℕ) → set.contains s q ≡ (q == cpu)

-- they agree but on this number, or one of them has nothing else: what is granted of such sets is so too
abbrev pub IsNear : ℕ → Ids → Ids → Type 0
IsNear cpu s t = AgreeBut cpu s t ⊎ (HasOnly cpu s ⊎ HasOnly cpu t)

-- the set with this number, or without it
abbrev pub with_cpu : ℕ → Bool → Ids → Ids
with_cpu cpu has s = if has then set.insert s cpu else set.remove s cpu

-- the group, with this CPU in effect or not
abbrev pub having : ℕ → Bool → Cgroup → Cgroup
having cpu has n = with_effective Cpus (with_cpu cpu has n.shares.value.cpus.effective) n

-- what the group under a key has in effect is near what it is granted of what is kept of its parent
abbrev pub IsNearAt : ℕ → Slab Cgroup → ℕ → Type 0
IsNearAt cpu s key =
    (n : Cgroup) (p : Group) → get s key ≡ Some n → n.parent ≡ Some p
    → IsNear cpu n.shares.value.cpus.effective (granted n.shares.value.cpus.requested (effective_kept Cpus (get s p.key)))

-- what is kept of each group is what it was granted while these CPUs were online
abbrev pub AllGranted : Slab Cgroup → Ids → Type 0
AllGranted s was = (key : ℕ) (n : Cgroup) → get s key ≡ Some n → IsGranted Cpus s was n

-- the same while some CPUs were online that agree with these but on one
pub record WasGranted (cpu : ℕ) (s : Slab Cgroup) (top : Ids) : Type 0 where
  pub was : Ids
  pub agree : AgreeBut cpu was top
  pub granted : AllGranted s was
