pub mod StubLaws
