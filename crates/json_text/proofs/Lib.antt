pub mod TextTests
